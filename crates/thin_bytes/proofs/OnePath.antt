-- A path behind earlier ones of its list: nothing is written of a repeat, and of another its bytes.
use Prim.Native.Nat.{ℕ, ◌+◌, ◌-◌, ◌≤◌, ◌<◌}
use native.Mathlib.Nat.{add-zero}
use native.Mathlib.Omega.{arith}
use mathlib.Core.Path.{◌≡◌, refl, sym, ap, subst, ◌∙◌}
use mathlib.Core.Bool.{true, false}
use mathlib.Core.List.{List}
use lib.ListN.{length, take, drop, length-take, length-drop}
use Rattle.entries.specs.declared.Refusal.{Refusal}
use Rattle.entries.specs.Path.{ReactiveScopeDependency}
use Rattle.model.specs.ListLaws.{All}
use Rattle.model.specs.ReadingBytes.{got, refused, read_many}
use Rattle.model.specs.Job.{read_path}
use Rattle.model.specs.Answer.{path_bytes}
use Rattle.laws.specs.Written.{Stand, path_written}
use Rattle.writer.specs.declared.Writer.{Writer}
use Rattle.writer.specs.Writes.{HasRoom, Puts}
use Rattle.writer.proofs.Bytes.{puts_none, puts_own, puts_as}
use Rattle.job.specs.Passing.{passed}
use Rattle.job.proofs.Passing.{not_both}
use Rattle.job.proofs.RecordParts.{path_parts}
use Rattle.thin_bytes.specs.declared.PathsDone.{PathsDone}
use Rattle.thin_bytes.specs.Thins.{PathBehind, Repeats, PathNext, PathThinned, ThinsPath}
use Rattle.thin_bytes.proofs.Copied.{slice_take, stand_slice, stand_within}

module _ {s : List ℕ} {first earlier mark : ℕ} {w : Writer} {done : PathsDone} (x : PathNext s first earlier mark w done) where
  pub behind : PathBehind s first earlier done.from
  behind = record { mark = mark; before = x.before; reads = x.reads; path = x.path; next = x.next; read = x.read; short = x.short }

  pub path_there : {B : Type 0} {r : Refusal} → passed (read_path 4 mark s done.from) ≡ refused r → B
  path_there e = not_both (ap passed x.read) e

  module _ {next : ℕ} (past : passed (read_path 4 mark s done.from) ≡ got tt next) where
    next_is : x.next ≡ next
    next_is = let e = sym (ap passed x.read) ∙ past in cc

    -- the same path, whatever list and path were read
    module _ (ds : List ReactiveScopeDependency) (d : ReactiveScopeDependency) (n : ℕ)
        (reads : read_many earlier (read_path 4 mark) s first ≡ got ds done.from) (read : read_path 4 mark s done.from ≡ got d n) where
      place_is : n ≡ next
      place_is = let e = sym (ap passed read) ∙ past in cc

      abbrev again : PathBehind s first earlier done.from
      again =
          let e = place_is in
          let f = next_is in
          let g = x.short in
          record { mark = mark; before = ds; reads = reads; path = d; next = n; read = read; short = omega arith }

    pub repeat_dropped : Repeats s first earlier done.from true → ThinsPath s first earlier mark w w done (record { from = next; kept = done.kept })
    repeat_dropped repeat = record {
      is = λ ds d n reads read.
          subst (λ b. PathThinned mark b d n w w done (record { from = next; kept = done.kept }))
          (repeat.is (again ds d n reads read))
          (record { puts = puts_none w; from = sym (place_is ds d n reads read); kept = sym (add-zero done.kept); near = omega arith });
    }

    module _ (bytes : All (λ b. b < 256) s) where
      stands : Stand s done.from (path_bytes 4 mark x.path) next
      stands = subst (Stand s done.from (path_bytes 4 mark x.path)) next_is (path_written s bytes 4 mark done.from x.read)

      pub next_behind : done.from ≤ next
      next_behind = let p = stands.place in omega arith

      pub next_within : next ≤ length s
      next_within =
          let parts = path_parts s mark done.from x.read in
          let e = parts.end in
          let f = next_is in
          stand_within stands (let g = stands.place in omega arith)

      pub next_room : HasRoom w (length (take (next - done.from) (drop done.from s)))
      next_room =
          let e = next_is in
          let r = x.room in
          let within = next_within in
          omega (arith, length-take (next - done.from) (drop done.from s), length-drop done.from s)

      pub path_kept : {after : Writer} {n : ℕ} → Repeats s first earlier done.from false
          → Puts w after n (take (next - done.from) (drop done.from s))
          → ThinsPath s first earlier mark w after done (record { from = next; kept = done.kept + 1 })
      path_kept {after} repeat put = record {
        is = λ ds d m reads read.
            let stand = subst (Stand s done.from (path_bytes 4 mark d)) (place_is ds d m reads read)
            (path_written s bytes 4 mark done.from read) in
            let is = sym (slice_take done.from next s) ∙ stand_slice stand in
            subst (λ b. PathThinned mark b d m w after done (record { from = next; kept = done.kept + 1 }))
            (repeat.is (again ds d m reads read))
            (record {
              puts = puts_own (puts_as is put);
              from = sym (place_is ds d m reads read);
              kept = refl;
              near =
                  (let e = put.writes.ends in let size = ap length is in let g = stand.place in let h = place_is ds d m reads read in omega arith);
            });
      }

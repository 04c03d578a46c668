-- The paths of a list that are left: what is written of them behind those before is what stays of
-- all.
use Prim.Native.Nat.{ℕ, suc, ◌+◌, ◌-◌, ◌≤◌, ◌<◌}
use native.Mathlib.Nat.{sub-zero, zero-add}
use native.Mathlib.Omega.{arith}
use mathlib.Core.Path.{◌≡◌, refl, sym, ap, subst, ◌∙◌}
use mathlib.Core.Bool.{Bool, true, false, ◌||◌, cond}
use mathlib.Core.List.{List, [], ◌∷◌, ◌++◌}
use lib.ListN.{length}
use Rattle.entries.specs.Path.{ReactiveScopeDependency}
use Rattle.model.specs.Lists.{any_of, concat_map}
use Rattle.model.specs.Tests.{or_swap}
use Rattle.model.specs.ReadingBytes.{got, read_many}
use Rattle.model.specs.Job.{read_path}
use Rattle.model.specs.Answer.{path_bytes}
use Rattle.model.specs.Thin.{same_path, thinned_after, thinned_paths}
use Rattle.writer.specs.declared.Writer.{Writer}
use Rattle.writer.proofs.Bytes.{Coming, coming_start, coming_as, coming_more, coming_over}
use Rattle.job.proofs.Many.{many_first, many_last}
use Rattle.job.proofs.RecordParts.{path_onward, paths_onward}
use Rattle.thin_bytes.specs.declared.PathsDone.{PathsDone}
use Rattle.thin_bytes.specs.Thins.{PathNext, PathThinned, ThinsPath, PathsThere, PathsThinned, ThinsPaths}

any_last : (test : ReactiveScopeDependency → Bool) (xs : List ReactiveScopeDependency) (y : ReactiveScopeDependency)
    → any_of test (xs ++ (y ∷ [])) ≡ (test y || any_of test xs)
any_last test [] y = refl
any_last test (x ∷ xs) y = ap (λ b. test x || b) (any_last test xs y) ∙ or_swap (test x) (test y) (any_of test xs)

-- what is written of one path
abbrev one : ℕ → Bool → ReactiveScopeDependency → List ℕ
one mark repeat d = cond repeat [] (path_bytes 4 mark d)

-- what stays of a list is what stays of its first path and of the others behind it
bytes_more : (mark : ℕ) (earlier : List ReactiveScopeDependency) (d : ReactiveScopeDependency) (ds : List ReactiveScopeDependency)
    → concat_map (path_bytes 4 mark) (thinned_after earlier (d ∷ ds))
    ≡ one mark (any_of (same_path d) earlier) d ++ concat_map (path_bytes 4 mark) (thinned_after (d ∷ earlier) ds)
unfolding thinned_after
bytes_more mark earlier d ds = go (any_of (same_path d) earlier)
  where
    go : (b : Bool)
        → concat_map (path_bytes 4 mark) (cond b (thinned_after (d ∷ earlier) ds) (d ∷ thinned_after (d ∷ earlier) ds))
        ≡ one mark b d ++ concat_map (path_bytes 4 mark) (thinned_after (d ∷ earlier) ds)
    go true = refl
    go false = refl

count_more : (earlier : List ReactiveScopeDependency) (d : ReactiveScopeDependency) (ds : List ReactiveScopeDependency)
    → length (thinned_after earlier (d ∷ ds)) ≡ cond (any_of (same_path d) earlier) 0 1 + length (thinned_after (d ∷ earlier) ds)
unfolding thinned_after
count_more earlier d ds = go (any_of (same_path d) earlier)
  where
    go : (b : Bool) → length (cond b (thinned_after (d ∷ earlier) ds) (d ∷ thinned_after (d ∷ earlier) ds)) ≡ cond b 0 1 + length
        (thinned_after (d ∷ earlier) ds)
    go true = sym (zero-add (length (thinned_after (d ∷ earlier) ds)))
    go false = let n = length (thinned_after (d ∷ earlier) ds) in omega arith

one_most : (b : Bool) → cond b 0 1 ≤ 1
one_most true = omega arith
one_most false = omega arith

-- The list `ds` that ends at a place, of which i paths are done.
record Part (s : List ℕ) (mark first : ℕ) (ds : List ReactiveScopeDependency) (end : ℕ) (before w : Writer) (done : PathsDone)
    (i left : ℕ) : Type 0 where
  passed : List ReactiveScopeDependency
  earlier : List ReactiveScopeDependency
  rest : List ReactiveScopeDependency
  reads_passed : read_many i (read_path 4 mark) s first ≡ got passed done.from
  reads_rest : read_many left (read_path 4 mark) s done.from ≡ got rest end
  same : (test : ReactiveScopeDependency → Bool) → any_of test earlier ≡ any_of test passed
  coming : Coming before w (concat_map (path_bytes 4 mark) (thinned_paths ds)) (concat_map (path_bytes 4 mark) (thinned_after earlier rest))
  counted : done.kept + length (thinned_after earlier rest) ≡ length (thinned_paths ds)
  near : w.at + first ≤ before.at + done.from

pub record Thinning (s : List ℕ) (mark first count : ℕ) (before w : Writer) (done : PathsDone) (i : ℕ) : Type 0 where
  pub few : i ≤ count
  pub kept : done.kept ≤ i
  on : (ds : List ReactiveScopeDependency) (end : ℕ) → read_many count (read_path 4 mark) s first ≡ got ds end
      → Part s mark first ds end before w done i (count - i)

pub thinning : (s : List ℕ) (mark first count : ℕ) (w : Writer)
    → Thinning s mark first count w w (record { from = first; kept = 0 }) 0
thinning s mark first count w = record {
  few = omega arith;
  kept = omega arith;
  on = λ ds end e. record {
    passed = [];
    earlier = [];
    rest = ds;
    reads_passed = refl;
    reads_rest = subst (λ n. read_many n (read_path 4 mark) s first ≡ got ds end) (sym (sub-zero count)) e;
    same = λ test. refl;
    coming = coming_start w (concat_map (path_bytes 4 mark) (thinned_paths ds));
    counted = zero-add (length (thinned_paths ds));
    near = omega arith;
  };
}

module _ {s : List ℕ} {mark first count : ℕ} {before w : Writer} {done : PathsDone} {i : ℕ}
    (t : Thinning s mark first count before w done i) where
  pub thinning_end : count ≤ i → ThinsPaths s mark first count before w done
  unfolding thinned_after
  thinning_end over = record { is = λ ds end e. ended ds end (t.on ds end e) }
    where
      ended : (ds : List ReactiveScopeDependency) (end : ℕ) → Part s mark first ds end before w done i (count - i)
          → PathsThinned mark first ds end before w done
      ended ds end p =
          let z : count - i ≡ 0 = omega arith in
          let nothing : got [] done.from ≡ got p.rest end = subst (λ n. read_many n (read_path 4 mark) s done.from ≡ got p.rest end) z
          p.reads_rest in
          let none : p.rest ≡ [] = cc in
          let place : done.from ≡ end = cc in
          let no : thinned_after p.earlier p.rest ≡ [] = ap (thinned_after p.earlier) none in
          let counted = p.counted in
          let size = ap length no in
          record {
            puts = coming_over (coming_as (ap (concat_map (path_bytes 4 mark)) no) p.coming) refl;
            from = place;
            kept = omega arith;
            near = (let near = p.near in omega arith);
          }

  module _ (more : i < count) where
    first_of : {ds : List ReactiveScopeDependency} {end : ℕ} (p : Part s mark first ds end before w done i (count - i))
        → (d : ReactiveScopeDependency) × (next : ℕ) × (rest : List ReactiveScopeDependency) × (read_path 4 mark s done.from ≡ got d next) ×
        (read_many (count - i - 1) (read_path 4 mark) s next ≡ got rest end) × (d ∷ rest ≡ p.rest)
    first_of p = many_first (read_path 4 mark) s (count - i) done.from (omega arith) p.reads_rest

    pub next_path : PathsThere s mark first count before → count < 65536 → PathNext s first i mark w done
    next_path x few =
        let p = t.on x.paths x.end x.reads in
        let f = first_of p in
        let behind = paths_onward s mark (count - i - 1) f.1 f.4 in
        let short = x.short in
        let near = p.near in
        let here = path_onward s mark done.from f.3 in
        let room = x.room in
        let long = p.coming.long in
        let kept = t.kept in
        record {
          before = p.passed;
          reads = p.reads_passed;
          path = f.0;
          next = f.1;
          read = f.3;
          short = omega arith;
          room = omega arith;
          few = omega arith;
        }

    pub thinning_more : (after : Writer) (r : PathsDone) → PathsThere s mark first count before → ThinsPath s first i mark w after done r
        → Thinning s mark first count before after r (i + 1)
    thinning_more after r x thins = record { few = omega arith; kept = kept_more; on = λ ds end e. again ds end (t.on ds end e) }
      where
        again : (ds : List ReactiveScopeDependency) (end : ℕ) → Part s mark first ds end before w done i (count - i)
            → Part s mark first ds end before after r (i + 1) (count - (i + 1))
        again ds end p =
            let f = first_of p in
            let d = f.0 in
            let v : PathThinned mark (any_of (same_path d) p.passed) d f.1 w after done r = thins.is p.passed d f.1 p.reads_passed f.3 in
            let repeat : any_of (same_path d) p.passed ≡ any_of (same_path d) p.earlier = sym (p.same (same_path d)) in
            let split : concat_map (path_bytes 4 mark) (thinned_after p.earlier p.rest) ≡ one mark (any_of (same_path d) p.passed) d ++
            concat_map (path_bytes 4 mark)
            (thinned_after (d ∷ p.earlier) f.2) = ap (λ l. concat_map (path_bytes 4 mark) (thinned_after p.earlier l)) (sym f.5)
            ∙ bytes_more mark p.earlier d f.2
            ∙ ap (λ b. one mark b d ++ concat_map (path_bytes 4 mark) (thinned_after (d ∷ p.earlier) f.2)) (sym repeat) in
            let sizes : length (thinned_after p.earlier p.rest) ≡ cond (any_of (same_path d) p.passed) 0 1 + length (thinned_after (d ∷ p.earlier) f.2)
            = ap (λ l. length (thinned_after p.earlier l)) (sym f.5) ∙ count_more p.earlier d f.2
            ∙ ap (λ b. cond b 0 1 + length (thinned_after (d ∷ p.earlier) f.2)) (sym repeat) in
            let counted = p.counted in
            let kept = v.kept in
            let one_more : suc i ≡ i + 1 = omega arith in
            let fewer : count - i - 1 ≡ count - (i + 1) = omega arith in
            record {
              passed = p.passed ++ (d ∷ []);
              earlier = d ∷ p.earlier;
              rest = f.2;
              reads_passed = subst (λ n. read_many n (read_path 4 mark) s first ≡ got (p.passed ++ (d ∷ [])) r.from) one_more
                  (subst (λ n. read_many (suc i) (read_path 4 mark) s first ≡ got (p.passed ++ (d ∷ [])) n) (sym v.from)
                  (many_last (read_path 4 mark) s i first p.reads_passed f.3));
              reads_rest = subst (λ n. read_many n (read_path 4 mark) s r.from ≡ got f.2 end) fewer
                  (subst (λ n. read_many (count - i - 1) (read_path 4 mark) s n ≡ got f.2 end) (sym v.from) f.4);
              same = λ test. ap (λ b. test d || b) (p.same test) ∙ sym (any_last test p.passed d);
              coming = coming_more {xs = one mark (any_of (same_path d) p.passed) d} (coming_as split p.coming) v.puts;
              counted = omega arith;
              near =
                  (let near = v.near in
                  let from = v.from in
                  let here = path_onward s mark done.from f.3 in
                  let nearer = p.near in
                  omega arith);
            }

        kept_more : r.kept ≤ i + 1
        kept_more =
            let p = t.on x.paths x.end x.reads in
            let f = first_of p in
            let v = thins.is p.passed f.0 f.1 p.reads_passed f.3 in
            let kept = v.kept in
            let most = one_most (any_of (same_path f.0) p.passed) in
            let before-that = t.kept in
            omega arith

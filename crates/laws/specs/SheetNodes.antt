-- Document 02, E4: what a sheet that is written tells of its nodes. Two numbers of its head read
-- back to how many there are at the end and before the first round; the latter keep their numbers,
-- and the others come from reductions alone.
use Rattle.std.specs.Prelude.{ℕ, ◌≤◌, ◌≡◌, List, ◌++◌, length}
use Rattle.std.proofs.Common.{arith, ap, ◌∙◌}
use Rattle.model.specs.Lists.{concat_map}
use Rattle.model.specs.Registry.{node_limit}
use Rattle.model.specs.RegistryLaws.{Extends}
use Rattle.model.proofs.RegistryLaws.{extends_length}
use Rattle.model.specs.Reduction.{reduce_maybe_optional_chains}
use Rattle.model.specs.Propagation.{JoiningRule}
use Rattle.model.specs.PropagationLaws.{OnlyReduced}
use Rattle.model.proofs.PropagationLaws.{propagated_extends, propagated_reduces}
use Rattle.model.specs.ReadingBytes.{got, read_u16}
use Rattle.model.specs.Job.{Job, read_job}
use Rattle.model.specs.Stage.{start_of, propagated}
use Rattle.model.specs.Answer.{writes, number_bytes, flag, SH, node_bytes, set_bytes, sheet_bytes, verdict}
use Rattle.laws.specs.ReadBack.{number_back}
use Rattle.laws.specs.Verdicts.{ReadAndWritten, verdict_written}

-- of a job's sheet under a joining rule
pub record TellsNodes (head span_bytes : ℕ) (rule : JoiningRule) (job sheet : List ℕ) : Type 0 where
  pub j : Job
  pub end : ℕ
  pub reads : read_job head span_bytes job ≡ got j end
  -- "nodes u16", the third byte and the fourth
  pub nodes : read_u16 sheet 2 ≡ got (length (propagated rule j.blocks).work.registry) 4
  -- "a u16 at its end: nodes present before the first round"
  pub before : read_u16 sheet 8 ≡ got (length (start_of j.blocks).registry) 10
  -- these come first among the nodes, as they were; the others reduction added
  pub first : Extends (start_of j.blocks).registry (propagated rule j.blocks).work.registry
  pub others : OnlyReduced reduce_maybe_optional_chains (start_of j.blocks).registry (propagated rule j.blocks).work.registry
  pub no_more : length (start_of j.blocks).registry ≤ length (propagated rule j.blocks).work.registry
  pub within : length (propagated rule j.blocks).work.registry ≤ node_limit

pub sheet_tells_nodes : (head span_bytes : ℕ) (rule : JoiningRule) (job out sheet : List ℕ)
    → verdict head span_bytes rule sheet_bytes job out ≡ writes sheet → TellsNodes head span_bytes rule job sheet
unfolding sheet_bytes number_bytes
sheet_tells_nodes head span_bytes rule job out sheet e = go (verdict_written head span_bytes rule sheet_bytes job out sheet e)
  where
    go : ReadAndWritten rule (sheet_bytes span_bytes) (read_job head span_bytes job) sheet → TellsNodes head span_bytes rule job sheet
    go r =
        let start = start_of r.j.blocks in
        let p = propagated rule r.j.blocks in
        let n = length p.work.registry in
        let m = length start.registry in
        let blocks = number_bytes 2 (length r.j.blocks) in
        let run = number_bytes 1 p.rounds ++ number_bytes 1 (flag p.settled) in
        let rest = concat_map (node_bytes span_bytes) p.work.registry ++ set_bytes r.j.blocks p.work.sets in
        let first = propagated_extends rule r.j.blocks in
        let no_more = extends_length first in
        let within = r.within in
        record {
          j = r.j;
          end = r.end;
          reads = r.reads;
          nodes = ap (λ s. read_u16 s 2) r.written
              ∙ (number_back 2 n (omega arith)).back (number_bytes 2 SH) (blocks ++ (run ++ (number_bytes 2 m ++ rest)));
          before = ap (λ s. read_u16 s 8) r.written
              ∙ (number_back 2 m (omega arith)).back (number_bytes 2 SH ++ (number_bytes 2 n ++ (blocks ++ run))) rest;
          first = first;
          others = propagated_reduces rule r.j.blocks;
          no_more = no_more;
          within = within;
        }

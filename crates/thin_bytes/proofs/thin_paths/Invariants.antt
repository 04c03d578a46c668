-- The loop's invariant, `Thinning`: what is written of the paths that are left behind those before
-- is what stays of all.
use Rattle.thin_bytes.proofs.Thinning.{Thinning}
use Rattle.thin_bytes.proofs.thin_paths.Given as goal

abbrev pub invariant-loop-i : goal.invariant-loop-i
invariant-loop-i l = Thinning l.s l.mark l.first l.count l.initial.w l.w l.done l.i

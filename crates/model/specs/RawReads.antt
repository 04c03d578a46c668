-- Document 02, E5 (raw reads in a job): what a raw read says, and whether its path joins the
-- assumed ones, by `is_immutable_at_instr` and `in_range` of the Rust, without a nested context.
use Rattle.std.specs.Prelude.{ℕ, ◌+◌, Bool, ◌&&◌, ◌||◌, not, List, map, leb, ltb}
use Rattle.entries.specs.Path.{ReactiveScopeDependency}
use Rattle.model.specs.Lists.{select}

-- The fields of RD: the instruction at which the path is read, the mutable range of its identifier,
-- the identifier's scope with the scope's range, whether the identifier is known to be immutable,
-- and the path. Without a scope the two numbers of its range are there all the same, and say
-- nothing.
pub record RawRead : Type 0 where
  pub instruction : ℕ
  pub range_start : ℕ
  pub range_end : ℕ
  pub has_scope : Bool
  pub scope_start : ℕ
  pub scope_end : ℕ
  pub known_immutable : Bool
  pub path : ReactiveScopeDependency

-- `in_range`: an instruction lies in a range, start included and end not.
abbrev pub in_range : ℕ → ℕ → ℕ → Bool
in_range instruction start end = leb start instruction && ltb instruction end

-- `mutable_at_instr`: the range is longer than one instruction, there is a scope, and the
-- instruction lies in the scope's range.
abbrev pub mutable_at_instr : RawRead → Bool
mutable_at_instr r =
    ltb (r.range_start + 1) r.range_end && (r.has_scope && in_range r.instruction r.scope_start r.scope_end)

-- `is_immutable_at_instr`, "without a nested context".
abbrev pub is_immutable_at_instr : RawRead → Bool
is_immutable_at_instr r = not (mutable_at_instr r) || r.known_immutable

-- "The path joins the assumed ones unless `is_immutable_at_instr` .. says no": the paths that are
-- kept, in the order of their records.
abbrev pub kept_paths : List RawRead → List ReactiveScopeDependency
kept_paths rs = map (λ (r : RawRead). r.path) (select is_immutable_at_instr rs)

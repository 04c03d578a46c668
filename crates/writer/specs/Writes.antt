-- What a writer leaves in a buffer.
use Rattle.std.specs.Prelude.{ℕ, ◌+◌, ◌≤◌, ◌≡◌, Bool, List, ◌++◌, length}
use Rattle.std.proofs.lemmas.List.Edits.{sets}
use Rattle.entries.specs.declared.IdentifierId.{IdentifierId}
use Rattle.model.specs.Answer.{number_bytes, u8, u16, u32, flag, span_width}
use Rattle.writer.specs.declared.Writer.{Writer}

-- The buffer `before` has become `after`: these bytes stand from `at` on, up to `next`, and all
-- others are as they were.
pub record Writes (before after : List ℕ) (at : ℕ) (bytes : List ℕ) (next : ℕ) : Type 0 where
  pub is : after ≡ sets before at bytes
  pub ends : next ≡ at + length bytes

-- The writer's buffer has room for n bytes more.
abbrev pub HasRoom : Writer → ℕ → Type 0
HasRoom w n = w.at + n ≤ length w.out.now

-- The writer wrote these n bytes at its place, and now stands behind them, in the same buffer.
pub record Puts (before after : Writer) (n : ℕ) (bytes : List ℕ) : Type 0 where
  pub writes : Writes before.out.now after.out.now before.at bytes after.at
  pub next : after.at ≡ before.at + n
  pub long : length after.out.now ≡ length before.out.now
  pub same : after.out.ghost_name ≡ before.out.ghost_name

-- What stands before a path's entries: mark, identifier, reactive, span and how many entries
-- follow. `path_bytes span_width` is this and the entries.
abbrev pub path_head_bytes : ℕ → IdentifierId → Bool → ℕ → ℕ → List ℕ
path_head_bytes mark identifier reactive span entries =
    u16 mark ++ u32 identifier.0 ++ u8 (flag reactive) ++ number_bytes span_width span ++ u8 entries

-- "rounds u8, settled u8 (1 or 0)"
abbrev pub rounds_bytes : ℕ → Bool → List ℕ
rounds_bytes rounds settled = u8 rounds ++ u8 (flag settled)

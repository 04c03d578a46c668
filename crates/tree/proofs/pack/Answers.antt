-- The two marks of the access are the two bits; parent and place have 16 bits each, so that nothing
-- is lost, and the bits above are free.
use mathlib.Core.Path.{refl}
use Rattle.entries.specs.Access.{is_optional_access, is_dependency_access}
use Rattle.writer.proofs.Bytes.{byte_flag}
use Rattle.tree.specs.Words.{pack}
use Rattle.tree.proofs.Packed.{pack_low}
use Rattle.tree.proofs.pack.Goals as goal

pub returns : goal.returns
unfolding pack
returns c =
    let a = c.args in
    rw (c.from-dependency.ensures, c.is_dependency.ensures, byte_flag (is_dependency_access a.access))
    (rw (c.from-optional.ensures, c.is_optional.ensures, byte_flag (is_optional_access a.access))
    (refl, pack_low a.parent a.place a.access c.requires.0 c.requires.1))

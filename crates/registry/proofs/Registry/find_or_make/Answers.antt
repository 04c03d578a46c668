-- What `find` gives tells whether the model finds the node or makes it; where it is made and there
-- is no room, the model's registry passes the limit.
use native.Mathlib.Omega.{arith}
use mathlib.Core.Path.{refl}
use Rattle.registry.specs.Words.{unpack, count_in}
use Rattle.registry.proofs.Pack.{inside_by_head}
use Rattle.registry.proofs.Buckets.{sought_found, sought_nowhere}
use Rattle.registry.proofs.View.{arrived_found, arrived_full, inside_limit}
use Rattle.registry.proofs.Held.{held_made}
use Rattle.registry.proofs.Registry.find_or_make.Goals as goal

pub returns-in-Some : goal.returns-in-Some
returns-in-Some c =
    let w = c.args.self.now.words in
    let held = c.args.self.now.held in
    let n = unpack c.args.head c.args.value c.args.span in (
      held,
      arrived_found w n c.in-Some.k.0
          (sought_found w c.args.head c.args.value c.args.span held.packed c.requires.0 c.in-Some.k c.in-Some.ensures held.sound)
          c.in-Some.ensures.within,
    )

pub note-requires : goal.note-requires
note-requires c =
    let inside =
    inside_limit (unpack c.args.head c.args.value c.args.span) (count_in c.args.self.now.words) c.args.self.now.held.sized.room c.requires.2 in
    (inside_by_head c.args.head c.args.value c.args.span 0 0 512 inside, omega arith)

pub invariant_of-self : goal.invariant_of-self
invariant_of-self c =
    let w = c.args.self.now.words in
    let none = sought_nowhere w c.args.head c.args.value c.args.span c.args.self.now.held.packed c.requires.0 c.in_default.ensures in
    record {
      held =
          (held_made w c.args.self.now.optional.words c.push.new.ws c.note.new.optional.words c.args.head c.args.value c.args.span
          (record { 0 = c.count-end.result }) c.args.self.now.held c.count-end.ensures c.requires.2 none
          c.push.ensures.0 c.push.ensures.1 c.push.ensures.2 c.push.ensures.3 c.note.new.optional.eight c.note.ensures).0;
    }

pub returns-then-end-lt-LIMIT : goal.returns-then-end-lt-LIMIT
returns-then-end-lt-LIMIT c =
    let w = c.args.self.now.words in
    let none = sought_nowhere w c.args.head c.args.value c.args.span c.args.self.now.held.packed c.requires.0 c.in_default.ensures in
    held_made w c.args.self.now.optional.words c.push.new.ws c.note.new.optional.words c.args.head c.args.value c.args.span
    (record { 0 = c.count-end.result }) c.args.self.now.held c.count-end.ensures c.requires.2 none
    c.push.ensures.0 c.push.ensures.1 c.push.ensures.2 c.push.ensures.3 c.note.new.optional.eight c.note.ensures

pub returns-else-end-lt-LIMIT : goal.returns-else-end-lt-LIMIT
returns-else-end-lt-LIMIT c =
    let w = c.args.self.now.words in
    let none = sought_nowhere w c.args.head c.args.value c.args.span c.args.self.now.held.packed c.requires.0 c.in_default.ensures in
    (refl, arrived_full w (unpack c.args.head c.args.value c.args.span) _ none c.count-end.ensures c.if-end-lt-LIMIT.false)

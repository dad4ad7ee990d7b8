use Rattle.versioned_store.specs.SeenBy.{stored}
use Rattle.versioned_store.proofs.Keeping.{rest_keeps}
use Rattle.versioned_store.proofs.versions.Versions.rest.Goals as goal

pub invariant_of-self : goal.invariant_of-self
invariant_of-self c = record { sound = rest_keeps (stored c.args.self.now) c.args.v c.args.self.now.sound c.requires }

use Rattle.world.proofs.States.Alone.{alone_members}
use Rattle.world.proofs.starting.members_alone.Goals as goal

pub returns-in-Ok : goal.returns-in-Ok
returns-in-Ok c = alone_members c.args.member c.in-Ok.members c.in-Ok.ensures.members

use Rattle.std.proofs.Common.{◌≡◌, ◌+◌, ◌++◌, ◌<◌, ◌^◌, length}
use Rattle.std.specs.Vec.Iter.{into_iter_items}
use Rattle.replica.specs.Logging.{AllFit}
use Rattle.replica_model.specs.Records.{placed}
use Rattle.replica.specs.Step.{fences}
use Rattle.replica.proofs.replica.Replica.block.Given as goal

abbrev pub invariant-loop-body : goal.invariant-loop-body
invariant-loop-body l = record {
  done : l.block ++ placed l.last l.epoch (into_iter_items l.body-iterator) ≡ fences l.fn.self l.fn.event ++ placed l.fn.self.last.0 l.epoch l.fn.bodies.items;
  room : l.last + length (into_iter_items l.body-iterator) < 2 ^ 64;
  fit : AllFit (into_iter_items l.body-iterator);
}

-- What a collection means: that of the dictionary or the queue that it is.
use Rattle.std.specs.Prelude.{ℕ}
use Rattle.coll_model.specs.declared.op.Kind.{Kind}
use Rattle.coll_model.specs.declared.op.Kind.TheVariants as kinds
use Rattle.coll_model.specs.declared.contents.Contents.{Contents}
use Rattle.coll_model.specs.declared.contents.Contents.TheVariants as contents
use Rattle.versioned_store.specs.SeenBy.{pairs}
use Rattle.reliable_queue.specs.Queues.{values_at}
use Rattle.reliable_queue.specs.SeenBy.{versioned}
use Rattle.rc_collections.specs.declared.collection.Collection.{Collection}
use Rattle.rc_collections.specs.declared.collection.Collection.TheVariants.{Dict, Queue}

abbrev pub kind_of : Collection → Kind
kind_of (Dict d) = kinds.Dict
kind_of (Queue q) = kinds.Queue

abbrev pub floor_of : Collection → ℕ
floor_of (Dict d) = d.versions.floor.0
floor_of (Queue q) = q.floor.0

abbrev pub top_of : Collection → ℕ
top_of (Dict d) = d.versions.top.0
top_of (Queue q) = q.top.0

abbrev pub view_of : Collection → ℕ → Contents
view_of (Dict d) w = contents.Dict (pairs d.versions w)
view_of (Queue q) w = contents.Queue (values_at (versioned q) w)

-- The laws of a collection are those of the dictionary or the queue that it is.
use Rattle.std.specs.Prelude.{◌≡◌, ℕ, ◌≤◌}
use Rattle.std.proofs.Common.{refl, ap}
use Rattle.coll_model.specs.Effect as model
use Rattle.coll_model.specs.declared.contents.Contents.TheVariants as contents
use Rattle.provider_law.specs.Views.{Rests}
use Rattle.rc_collections.specs.declared.collection.Collection.{Collection}
use Rattle.rc_collections.specs.declared.collection.Collection.TheVariants.{Dict, Queue}
use Rattle.rc_collections.specs.Meaning.{kind_of, floor_of, top_of, view_of}

pub in_order : (c : Collection) → floor_of c ≤ top_of c
in_order (Dict d) = d.versions.sound.in_order
in_order (Queue q) = q.sound.in_order

pub rests : (c : Collection) → Rests (top_of c) (view_of c)
rests (Dict d) w le = ap contents.Dict (d.versions.sound.rests w le)
rests (Queue q) w le = ap contents.Queue (q.sound.rests w le)

pub of_its_kind : (c : Collection) (w : ℕ) → model.kind_of (view_of c w) ≡ kind_of c
of_its_kind (Dict d) w = refl
of_its_kind (Queue q) w = refl

-- keys are as many as objects
use Rattle.std.proofs.Common.{◌≡◌, suc, List, [], ◌∷◌, length, Option, refl, ap, ◌∙◌}
use Rattle.sai_types.specs.declared.ids.Rid.{Rid}
use Rattle.sai_types.specs.declared.ids.Vid.{Vid}
use Rattle.sai_types.specs.declared.body.Object.{Object}
use Rattle.chip_names.specs.Naming.{entries_of}
use Rattle.view_match.specs.Keys.{keys_of_objects}
use Rattle.view_match.specs.Listed.{objects_as}
use Rattle.view_match.specs.declared.key.NaturalKey.{NaturalKey}
use Rattle.view_match.proofs.Paired.{length-entries, length_keys}

length_as : (objects : List (Object Vid)) → length (objects_as objects) ≡ length objects
length_as [] = refl
length_as (o ∷ os) = ap suc (length_as os)

pub length-old : (keys : List (Option NaturalKey)) (old : List (Object Rid)) → keys ≡ keys_of_objects (entries_of old) → length keys ≡ length old
length-old keys old e = ap length e ∙ length_keys (entries_of old) (entries_of old) ∙ length-entries old

pub length-new : (keys : List (Option NaturalKey)) (listed : List (Object Rid)) (new : List (Object Vid)) → keys ≡ keys_of_objects (entries_of listed) → listed ≡ objects_as new → length keys ≡ length new
length-new keys listed new e same = length-old keys listed e ∙ ap length same ∙ length_as new

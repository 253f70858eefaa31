-- the things of objects, one more of which was looked at
use Rattle.std.proofs.Common.{◌≡◌, List, [], ◌∷◌, ◌++◌, Option, None, Some, sym, ap, ◌∙◌, refl}
use Rattle.std.proofs.lemmas.List.{append_assoc}
use Rattle.sai_types.specs.declared.body.Object.{Object}
use Rattle.sai_types.specs.declared.ids.Rid.{Rid}
use Rattle.sai_types.specs.declared.thing.Thing.{Thing}
use Rattle.sai_types.specs.Named.{thing_of, things_among, those}
use Rattle.sai_types.specs.Objects.{Objects}
use Rattle.chip_names.specs.Naming.{entries_of}

those-first : (t : Option Thing) (ts : List (Option Thing)) → those (t ∷ ts) ≡ those (t ∷ []) ++ those ts
those-first None ts = refl
those-first (Some x) ts = refl

pub past-thing : (all : Objects) (os : List (Object Rid)) (o : Object Rid) (rest : List (Object Rid)) (before after total : List Thing) (t : Option Thing) → os ≡ o ∷ rest → t ≡ thing_of all (o.entry, o.body) → after ≡ before ++ those (t ∷ []) → before ++ those (things_among all (entries_of os)) ≡ total → after ++ those (things_among all (entries_of rest)) ≡ total
past-thing all os o rest before after total t next is more h =
    ap (λ l. l ++ those (things_among all (entries_of rest))) more
    ∙ append_assoc before (those (t ∷ [])) (those (things_among all (entries_of rest)))
    ∙ ap (λ l. before ++ l) (sym (those-first t (things_among all (entries_of rest))) ∙ ap (λ x. those (x ∷ things_among all (entries_of rest))) is ∙ sym (ap (λ l. those (things_among all (entries_of l))) next))
    ∙ h

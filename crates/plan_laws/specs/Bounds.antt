-- What a plan's calls make and remove. Own.
use Rattle.std.specs.Prelude.{◌≡◌, Bool, true, false, List, Some}
use Rattle.sai_types.specs.declared.ids.Rid.{Rid}
use Rattle.sai_types.specs.declared.body.Body.{Body}
use Rattle.sai_types.specs.declared.body.Body.TheVariants as body
use Rattle.sai_types.specs.declared.body.Call.{Call}
use Rattle.sai_types.specs.declared.body.Call.TheVariants as call
use Rattle.sai_types.specs.declared.body.Entry.{Entry}
use Rattle.sai_types.specs.declared.body.Entry.TheVariants as entry
use Rattle.sai_types.specs.declared.kind.Kind.{Kind}
use Rattle.sai_types.specs.declared.thing.Thing.{Thing}
use Rattle.sai_types.specs.Alike.{IsIn}
use Rattle.sai_types.specs.Named.{thing_of}
use Rattle.sai_types.specs.Names.{name_of}
use Rattle.sai_types.specs.Objects.{Objects, body_at, is_of}
use Rattle.plan_laws.specs.Old.{is_double}

-- whether a call makes an object of this kind
abbrev pub makes_kind : Kind → Call Rid → Bool
makes_kind kind (call.Create b) = is_of kind b
makes_kind kind _ = false

-- an object is a double: of several groups of the same hops, one whose identifier is not the least, or a member of it
abbrev pub IsDouble : Objects → Entry Rid → Body Rid → Type 0
IsDouble objects e (body.GroupMember g n weight) = is_double objects g ≡ true
IsDouble objects (entry.Oid g) body.Group = is_double objects g ≡ true
IsDouble objects e b = ⊥

-- an object stands that the new view has no name for, or that is a double
pub record IsUnwanted (objects : Objects) (new : List Thing) (e : Entry Rid) : Type 0 where
  pub body : Body Rid
  pub found : body_at objects e ≡ Some body
  pub unless : (u t : Thing) → thing_of objects (e, body) ≡ Some u → IsIn t new → name_of t ≡ name_of u → IsDouble objects e body

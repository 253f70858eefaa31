-- What the objects of a chip take up. Own.
use Rattle.std.specs.Prelude.{◌≡◌, ℕ, Bool, List, [], ◌∷◌, Option, Some, None, sum_by}
use Rattle.std.specs.List.{list_any}
use Rattle.std.specs.Map.{values_of}
use Rattle.sai_types.specs.declared.ids.Rid.{Rid}
use Rattle.sai_types.specs.declared.body.Body.{Body}
use Rattle.sai_types.specs.declared.body.Body.TheVariants as body
use Rattle.sai_types.specs.declared.body.RifOn.{RifOn}
use Rattle.sai_types.specs.declared.body.RifOn.TheVariants as on
use Rattle.sai_types.specs.declared.body.To.{To}
use Rattle.sai_types.specs.declared.body.To.TheVariants as to
use Rattle.sai_types.specs.declared.body.Entry.{Entry}
use Rattle.sai_types.specs.Objects.{Objects, kind_of, body_at}
use Rattle.sai_types.specs.References.{router_of}
use Rattle.sai_chip.specs.declared.mark.TakenMark.{TakenMark}
use Rattle.sai_chip.specs.declared.mark.TakenMark.TheVariants as mark
use Rattle.sai_chip.specs.Tally.{Tally, is_mark, claims, count_at}

abbrev pub lane_marks : List ℕ → List TakenMark
lane_marks [] = []
lane_marks (lane ∷ lanes) = mark.Lane lane ∷ lane_marks lanes

abbrev pub base_marks : RifOn Rid → List TakenMark
base_marks (on.Port p) = mark.RefersTo p ∷ []
base_marks (on.Vlan v) = mark.RefersTo v ∷ []

abbrev pub target_marks : To Rid → List TakenMark
target_marks to.Drop = []
target_marks (to.Rif r) = mark.RefersTo r ∷ []
target_marks (to.NextHop n) = mark.RefersTo n ∷ []
target_marks (to.Group g) = mark.RefersTo g ∷ []

-- with a reference to the virtual router in front, unless it is the default one
abbrev pub router_marks : Option Rid → List TakenMark → List TakenMark
router_marks None ks = ks
router_marks (Some r) ks = mark.RefersTo r ∷ ks

-- the natural key, the lanes and the references of a body beside its virtual router; one without an identifier is found by its natural key
abbrev pub key_marks : Body Rid → List TakenMark
key_marks (body.Port lanes speed mtu up) = lane_marks lanes
key_marks (body.Vlan vlan) = mark.Vlan vlan ∷ []
key_marks (body.VirtualRouter label) = mark.VirtualRouter label ∷ []
key_marks (body.BridgePort port) = mark.BridgePort port ∷ mark.RefersTo port ∷ []
key_marks (body.VlanMember vlan bridge_port tagging) = mark.VlanMember vlan bridge_port ∷ mark.RefersTo vlan ∷ mark.RefersTo bridge_port ∷ []
key_marks (body.Rif vr on) = mark.Rif on ∷ base_marks on
key_marks (body.OwnAddress vr ip) = []
key_marks (body.Neighbor rif ip mac) = mark.RefersTo rif ∷ []
key_marks (body.NextHop rif ip) = mark.NextHop rif ip ∷ mark.RefersTo rif ∷ []
key_marks body.Group = []
key_marks (body.GroupMember group next_hop weight) = mark.GroupMember group next_hop weight ∷ mark.RefersTo group ∷ mark.RefersTo next_hop ∷ []
key_marks (body.Route vr prefix to) = target_marks to

-- what a body takes up
abbrev pub marks_of : Body Rid → List TakenMark
marks_of b = mark.Of (kind_of b) ∷ router_marks (router_of b) (key_marks b)

-- whether a body takes it up
abbrev pub has_mark : TakenMark → Body Rid → Bool
has_mark m b = list_any (λ k. is_mark k m) (marks_of b)

-- whether one of the objects takes it up
abbrev pub is_claimed : TakenMark → Objects → Bool
is_claimed m objects = list_any (λ o. has_mark m o.1) objects

-- how often the objects take it up
abbrev pub times_claimed : TakenMark → Objects → ℕ
times_claimed m objects = sum_by (λ b. claims m (marks_of b)) (values_of objects)

-- each mark is counted as often as it stands
pub record IsCounted (objects : Objects) (counts : Tally) : Type 0 where
  pub each : (m : TakenMark) → count_at counts m ≡ times_claimed m objects

-- what the body of an object takes up, where there is one
abbrev pub marks_if : Option (Body Rid) → List TakenMark
marks_if None = []
marks_if (Some b) = marks_of b

abbrev pub marks_at : Objects → Entry Rid → List TakenMark
marks_at objects e = marks_if (body_at objects e)

-- which rows use what is shared, and that a route refers to its group
use Rattle.std.proofs.Common.{◌≡◌, ◌∷◌, inl, inr, List, [], Some, refl, subst}
use Rattle.swss_types.specs.declared.address.Prefix.{Prefix}
use Rattle.swss_types.specs.declared.vrf.Vrf.{Vrf}
use Rattle.table_schema.specs.Plan.{Ports}
use Rattle.table_schema.specs.declared.key.Key.{Key}
use Rattle.switch_model.specs.Placed.{Placed as Row}
use Rattle.sai_types.specs.declared.weight.WHop.{WHop}
use Rattle.sai_types.specs.declared.thing.Goal.TheVariants as goal
use Rattle.sai_types.specs.declared.thing.Thing.TheVariants as thing
use Rattle.sai_types.specs.Alike.{IsIn}
use Rattle.sai_types.specs.Names as name
use Rattle.sai_types.specs.Names.{Refers}
use Rattle.chip_layout.proofs.Bodies.{beside}
use Rattle.row_layout.specs.Rows.{Owner}
use Rattle.row_layout.specs.Shared.{uses}
use Rattle.switch_machine.specs.Consistent.{IsConsistent, IsUsedOrRetired}
use Rattle.switch_machine.specs.Flights.{IsRow, IsUser, Machine}
use Rattle.switch_machine.proofs.Splits.{use_row_in}

-- a route to a group refers to it
pub group_referred : (v : Vrf) (prefix : Prefix) (hops : List WHop) → Refers (thing.Route v prefix (goal.Group hops)) (name.Group hops)
group_referred v prefix hops = beside v (name.Group hops ∷ []) (name.Group hops) (inl refl)

module _ (plan : Ports) (m : Machine) (sound : IsConsistent plan m) where
  -- a row uses what is held
  pub user_row : (k : Key) (o : Owner) → IsUser plan m.board k o → (r : Row) × IsRow m.board k r × IsIn o (uses plan k r)
  user_row k o (inr (rests, h)) = let r = use_row_in plan k (m.board.applied k) o h in (r.0, inl r.1, r.2)
  user_row k o (inl (v, g, at, is, inl h)) = let r = use_row_in plan g.key g.new o h in (r.0, inr (v, g, at, is, r.1), subst (λ q. IsIn o (uses plan q r.0)) is r.2)
  user_row k o (inl (v, g, at, is, inr h)) = let was = (sound.board.leaves v g o at h).0 in (was.row, inl (subst (λ q. m.board.applied q ≡ Some was.row) is was.was), subst (λ q. IsIn o (uses plan q was.row)) is was.used)

  pub held_row : (o : Owner) → IsUsedOrRetired plan m.board o → (k : Key) × (r : Row) × IsRow m.board k r × IsIn o (uses plan k r)
  held_row o (inl (k, user)) = let x = user_row k o user in (k, x.0, x.1, x.2)
  held_row o (inr (v, g, at, retires)) = let was = sound.board.left v g o at retires in (g.key, was.row, inl was.was, was.used)

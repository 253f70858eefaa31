-- what a row names in its place alone, the router of an address, is that of its interface
use Rattle.std.proofs.Common.{◌≡◌, ◌⊎◌, ◌∙◌, inl, inr, ℕ, Option, None, Some, option_map, refl, sym, ap, subst}
use Rattle.std.proofs.lemmas.Option.{same_Some}
use Rattle.swss_types.specs.declared.address.Ip.{Ip}
use Rattle.swss_types.specs.declared.interface.IfName.{IfName}
use Rattle.swss_types.specs.declared.vrf.Vrf.{Vrf}
use Rattle.table_schema.specs.Names.{base_names, router_names}
use Rattle.table_schema.specs.Names as written
use Rattle.table_schema.specs.Plan.{Ports}
use Rattle.table_schema.specs.declared.key.Key.{Key}
use Rattle.table_schema.specs.declared.key.Key.TheVariants as key
use Rattle.table_schema.specs.declared.row.Row.{Row as BareRow}
use Rattle.table_schema.specs.declared.row.Row.TheVariants as bare_row
use Rattle.sai_types.specs.Alike.{IsIn}
use Rattle.sai_types.proofs.Membership.{in-right}
use Rattle.switch_model.specs.Good.{TypedRows}
use Rattle.switch_model.specs.Placed as row
use Rattle.switch_model.specs.Placed.{Placed as Row, bare, bare_rows, place, placed_names as names_of, router_in, router_of_row}
use Rattle.switch_machine.specs.Consistent.{IsOrderly}
use Rattle.switch_machine.specs.Flights.{Fits, IsFirm, IsRow, MachineBoard}
use Rattle.switch_machine.proofs.Placing.{IsInRouter, names_in, names_out, router_row, row_of}
use Rattle.orch_flight.specs.Needing.{row_names}
use Rattle.registry_laws.proofs.Listing.{never_none}

pub placed_none : (v : Vrf) (o : Option BareRow) → option_map (place v) o ≡ None → o ≡ None
placed_none v None h = refl
placed_none v (Some r) h = never_none (place v r) h

module _ (plan : Ports) (b : MachineBoard) (orderly : IsOrderly plan b) where
  abbrev rows : TypedRows
  rows = bare_rows b.applied

  -- ---- a row that is to be

  module _ (k : Key) (good : Option BareRow) where
    abbrev new : Option Row
    new = option_map (place (router_in rows k)) good

    its_router : (v : Vrf) → new ≡ Some (row.Addr v) → router_in rows k ≡ v
    its_router v e = of good e
      where
        of : (o : Option BareRow) → option_map (place (router_in rows k)) o ≡ Some (row.Addr v) → router_in rows k ≡ v
        of None e = absurd cc
        of (Some bare_row.Addr) e = let same : row.Addr (router_in rows k) ≡ row.Addr v = same_Some (row.Addr (router_in rows k)) (row.Addr v) e in cc
        of (Some b) e = absurd cc

    pub inside : (n : IfName) (ip : Ip) (len : ℕ) (v u : Vrf) → k ≡ key.Addr n ip len → new ≡ Some (row.Addr v) → b.applied (key.Intf n) ≡ Some (row.Intf u) → v ≡ u
    inside n ip len v u is e at = sym (its_router v e) ∙ ap (router_in rows) is ∙ ap (λ o. router_of_row (option_map bare o)) at

    -- the row of the router stays
    pub router_firm : (r : Row) (p : Key) → new ≡ Some r → IsInRouter k r p → IsFirm b p
    router_firm r p e x =
        let is = its_router x.router (e ∙ ap Some x.row_is) in
        let named : IsIn p (router_names (router_of_row (rows (key.Intf x.on)))) = subst (λ v. IsIn p (router_names v)) (sym (sym (ap (router_in rows) x.key_is) ∙ is)) x.named in
        let y = router_row (rows (key.Intf x.on)) p named in
        let z = row_of (b.applied (key.Intf x.on)) (bare_row.Intf y.0) y.1 in
        orderly.named (key.Intf x.on) p z.0 (inl z.1) (names_in (key.Intf x.on) z.0 p (subst (λ r. IsIn p (written.names_of (key.Intf x.on) r)) (sym z.2) (in-right p (base_names x.on) (router_names y.0) y.2)))

    pub named_or_firm : (r : Row) (p : Key) → new ≡ Some r → IsIn p (names_of k r) → IsIn p (row_names k r) ⊎ IsFirm b p
    named_or_firm r p e i = by (names_out k r p i)
      where
        by : IsIn p (written.names_of k (bare r)) ⊎ IsInRouter k r p → IsIn p (row_names k r) ⊎ IsFirm b p
        by (inl h) = inl h
        by (inr x) = inr (router_firm r p e x)

  -- ---- a row that is applied or comes

  -- it names a key in its table, or an applied row does
  pub named_or_held : (q k : Key) (r : Row) → IsRow b q r → IsIn k (names_of q r) → IsIn k (row_names q r) ⊎ ((h : Key) × (x : Row) × (b.applied h ≡ Some x) × IsIn k (row_names h x))
  named_or_held q k r is_row i = by (names_out q r k i)
    where
      by : IsIn k (written.names_of q (bare r)) ⊎ IsInRouter q r k → IsIn k (row_names q r) ⊎ ((h : Key) × (x : Row) × (b.applied h ≡ Some x) × IsIn k (row_names h x))
      by (inl h) = inl h
      by (inr x) = inr (of firm.row firm.applied (orderly.fit (key.Intf x.on) firm.row (inl firm.applied)))
        where
          its : IsRow b (key.Addr x.on x.ip x.len) (row.Addr x.router)
          its = subst (λ z. IsRow b z (row.Addr x.router)) x.key_is (subst (IsRow b q) x.row_is is_row)

          firm : IsFirm b (key.Intf x.on)
          firm = orderly.named (key.Addr x.on x.ip x.len) (key.Intf x.on) (row.Addr x.router) its (inl refl)

          of : (y : Row) → b.applied (key.Intf x.on) ≡ Some y → Fits plan (key.Intf x.on) y → (h : Key) × (x : Row) × (b.applied h ≡ Some x) × IsIn k (row_names h x)
          of (row.Intf w) at fit =
              let same : x.router ≡ w = orderly.inside x.on x.ip x.len x.router w its at in
              (key.Intf x.on, row.Intf w, at, in-right k (base_names x.on) (router_names w) (subst (λ z. IsIn k (router_names z)) same x.named))
          of _ at fit = elim fit [ ]

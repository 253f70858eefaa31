-- the values of a port are set one after the other
use Rattle.std.proofs.Common.{◌≡◌, ◌==◌, ℕ, Bool, true, false, List, [], ◌∷◌, Option, Some, None, if◌then◌else◌, refl, sym, ap, subst, ◌∙◌}
use Rattle.std.proofs.lemmas.Bool.{eqb-false, eqb-true, false≢true}
use Rattle.table_schema.specs.declared.row.PortRow.{PortRow}
use Rattle.sai_types.specs.declared.ids.Vid.{Vid}
use Rattle.sai_types.specs.declared.body.Attr.{Attr}
use Rattle.sai_types.specs.declared.body.Attr.TheVariants as attr
use Rattle.sai_types.specs.declared.thing.Thing.{Thing}
use Rattle.sai_types.specs.declared.thing.Thing.TheVariants as thing
use Rattle.sai_types.specs.Names.{ThingName}
use Rattle.chip_layout.specs.Bodies.{IsChange}
use Rattle.row_layout.specs.Operations.{Change, Set, thing_of_port, same_thing, set_to}
use Rattle.row_layout.proofs.Changing.{set_none}
use Rattle.sai_types.proofs.Equal.{thing-exact}
use Rattle.port_orch.specs.Ports.{are_alike, first_attr, port_sets, port_thing, stepped}

set-new : (t u : Thing) (rest : List Change) → (t ≡ u → ⊥) → set_to t u rest ≡ Set u ∷ rest
set-new t u rest apart = by (same_thing t u) refl
  where
    by : (b : Bool) → same_thing t u ≡ b → (if b then rest else Set u ∷ rest) ≡ Set u ∷ rest
    by true e = absurd (apart (thing-exact t u e))
    by false e = refl

abbrev speed_of : Thing → ℕ
speed_of (thing.Port p) = p.speed
speed_of _ = 0

abbrev mtu_of : Thing → ℕ
mtu_of (thing.Port p) = p.mtu
mtu_of _ = 0

abbrev up_of : Thing → Bool
up_of (thing.Port p) = p.up
up_of _ = false

alike-apart : (a b : Bool) → are_alike a b ≡ false → a ≡ b → ⊥
alike-apart true true h e = false≢true (sym h)
alike-apart true false h e = false≢true (sym e)
alike-apart false true h e = false≢true e
alike-apart false false h e = false≢true (sym h)

alike-same : (a b : Bool) → are_alike a b ≡ true → a ≡ b
alike-same true true h = refl
alike-same true false h = absurd (false≢true h)
alike-same false true h = absurd (false≢true h)
alike-same false false h = refl

module _ (l : List ℕ) where
  -- from these values to those
  abbrev sets : ℕ → ℕ → Bool → ℕ → ℕ → Bool → List Change
  sets s m u s' m' u' = set_to (thing_of_port l s m u) (thing_of_port l s' m u) (set_to (thing_of_port l s' m u) (thing_of_port l s' m' u) (set_to (thing_of_port l s' m' u) (thing_of_port l s' m' u') []))

  speed-first : (s m s' m' : ℕ) (u u' : Bool) → (s == s') ≡ false → sets s m u s' m' u' ≡ Set (thing_of_port l s' m u) ∷ sets s' m u s' m' u'
  speed-first s m s' m' u u' h =
      let t = thing_of_port l s' m u in
      let rest = set_to t (thing_of_port l s' m' u) (set_to (thing_of_port l s' m' u) (thing_of_port l s' m' u') []) in
      set-new (thing_of_port l s m u) t rest (λ e. eqb-false s s' h (ap speed_of e)) ∙ ap (λ cs. Set t ∷ cs) (sym (set_none t rest))

  mtu-first : (s m m' : ℕ) (u u' : Bool) → (m == m') ≡ false → sets s m u s m' u' ≡ Set (thing_of_port l s m' u) ∷ sets s m' u s m' u'
  mtu-first s m m' u u' h =
      let t = thing_of_port l s m' u in
      let rest = set_to t (thing_of_port l s m' u') [] in
      set_none (thing_of_port l s m u) (set_to (thing_of_port l s m u) t rest) ∙ set-new (thing_of_port l s m u) t rest (λ e. eqb-false m m' h (ap mtu_of e))
      ∙ ap (λ cs. Set t ∷ cs) (sym (set_none t (set_to t t rest) ∙ set_none t rest))

  nothing-due : (s m : ℕ) (u : Bool) → sets s m u s m u ≡ []
  nothing-due s m u = let t = thing_of_port l s m u in set_none t (set_to t t (set_to t t [])) ∙ set_none t (set_to t t []) ∙ set_none t []

  up-first : (s m : ℕ) (u u' : Bool) → are_alike u u' ≡ false → sets s m u s m u' ≡ Set (thing_of_port l s m u') ∷ sets s m u' s m u'
  up-first s m u u' h =
      let t = thing_of_port l s m u in
      let v = thing_of_port l s m u' in
      set_none t (set_to t t (set_to t v [])) ∙ set_none t (set_to t v []) ∙ set-new t v [] (λ e. alike-apart u u' h (ap up_of e))
      ∙ ap (λ cs. Set v ∷ cs) (sym (nothing-due s m u'))

-- where a value differs it is set first, by which the port stands as for the row with it
abbrev pub Leads : (ThingName → Vid → Type 0) → PortRow → PortRow → Option (Attr Vid) → PortRow → Type 0
Leads at a r None q = port_sets a r ≡ []
Leads at a r (Some x) q = (port_sets a r ≡ Set (port_thing q) ∷ port_sets q r) × IsChange at (port_thing a) x (port_thing q) × (q.lanes ≡ a.lanes)

module _ (at : ThingName → Vid → Type 0) (a r : PortRow) where
  leads-by : (s m u : Bool) → (a.speed == r.speed) ≡ s → (a.mtu == r.mtu) ≡ m → are_alike a.up r.up ≡ u
      → Leads at a r (if s then (if m then (if u then None else Some (attr.Up r.up)) else Some (attr.Mtu r.mtu)) else Some (attr.Speed r.speed)) (if s then (if m then record a { up = r.up } else record a { mtu = r.mtu }) else record a { speed = r.speed })
  leads-by false m u hs hm hu = (speed-first a.lanes a.speed a.mtu r.speed r.mtu a.up r.up hs, refl, refl)
  leads-by true false u hs hm hu =
      (subst (λ s. sets a.lanes a.speed a.mtu a.up s r.mtu r.up ≡ Set (thing_of_port a.lanes a.speed r.mtu a.up) ∷ sets a.lanes a.speed r.mtu a.up s r.mtu r.up) (eqb-true a.speed r.speed hs) (mtu-first a.lanes a.speed a.mtu r.mtu a.up r.up hm), refl, refl)
  leads-by true true false hs hm hu = (
    subst (λ s. sets a.lanes a.speed a.mtu a.up s r.mtu r.up ≡ Set (thing_of_port a.lanes a.speed a.mtu r.up) ∷ sets a.lanes a.speed a.mtu r.up s r.mtu r.up) (eqb-true a.speed r.speed hs)
        (subst (λ m. sets a.lanes a.speed a.mtu a.up a.speed m r.up ≡ Set (thing_of_port a.lanes a.speed a.mtu r.up) ∷ sets a.lanes a.speed a.mtu r.up a.speed m r.up) (eqb-true a.mtu r.mtu hm) (up-first a.lanes a.speed a.mtu a.up r.up hu)),
    refl,
    refl,
  )
  leads-by true true true hs hm hu =
      subst (λ s. sets a.lanes a.speed a.mtu a.up s r.mtu r.up ≡ []) (eqb-true a.speed r.speed hs)
      (subst (λ m. sets a.lanes a.speed a.mtu a.up a.speed m r.up ≡ []) (eqb-true a.mtu r.mtu hm)
      (subst (λ u. sets a.lanes a.speed a.mtu a.up a.speed a.mtu u ≡ []) (alike-same a.up r.up hu) (nothing-due a.lanes a.speed a.mtu a.up)))

  pub leads : Leads at a r (first_attr a r) (stepped a r)
  leads = leads-by (a.speed == r.speed) (a.mtu == r.mtu) (are_alike a.up r.up) refl refl refl

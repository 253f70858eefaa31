-- the name of an interface that is live or goes has the identifier of its router interface, and that of a Loopback has none
use Rattle.std.proofs.Common.{◌≡◌, ◌≤◌, ◌∷◌, ◌∙◌, inl, inr, ℕ, Bool, true, false, cond, if◌then◌else◌, List, [], length, Option, None, Some, is_some, option_map, refl, sym, ap, subst, arith}
use Rattle.std.proofs.lemmas.Bool.{false≢true}
use Rattle.std.specs.BTreeMap.{is_at}
use Rattle.std.specs.Map.{remove_entry}
use Rattle.table_schema.specs.Fields.{HasRisingKeys}
use Rattle.swss_types.specs.declared.interface.IfName.{IfName}
use Rattle.swss_types.specs.declared.interface.IfName.TheVariants as on
use Rattle.table_schema.specs.Plan.{IsPlan, Ports}
use Rattle.table_schema.specs.declared.key.Key.{Key}
use Rattle.table_schema.specs.declared.key.Key.TheVariants as key
use Rattle.sai_types.specs.declared.ids.Rid.{Rid}
use Rattle.sai_types.specs.declared.ids.Vid.{Vid}
use Rattle.sai_types.specs.declared.thing.Thing.TheVariants as thing
use Rattle.sai_types.specs.Names as thing_name
use Rattle.sai_types.specs.Alike.{IsIn}
use Rattle.sai_types.specs.declared.hop.Base.{Base}
use Rattle.sai_types.specs.declared.hop.Base.TheVariants as base
use Rattle.sai_types.specs.Names.{name_of, name_kind}
use Rattle.sai_types.specs.Named.{first_lane}
use Rattle.chip_layout.specs.Bodies.{is_numbered}
use Rattle.switch_model.specs.Placed.{Placed as Row}
use Rattle.row_layout.specs.Operations.{Change, Make, Set, Take, uses_of}
use Rattle.row_layout.specs.Rows as owner
use Rattle.row_layout.specs.Rows.{Owner}
use Rattle.switch_machine.specs.Consistent.{IsConsistent}
use Rattle.switch_machine.specs.Flights.{IsShared, Machine, IsFirm, Fits, HasName, StandsIn, own_names}
use Rattle.switch_machine.proofs.Running.{row_keys, shared_row}
use Rattle.switch_machine.proofs.Splits.{IsSplit, key_split, use_row_in}
use Rattle.switch_machine.proofs.Tabled.{are_shared_by, in_from, tabled}
use Rattle.ref_counts.specs.declared.name.Name.TheVariants as name
use Rattle.ref_counts.specs.declared.name.NameState.{NameState}
use Rattle.ref_counts.specs.declared.name.NameState.TheVariants as state
use Rattle.ref_counts.specs.Registered.{Registered, begun, begun_to_go, made_live, without_user, first_of}
use Rattle.ref_counts.specs.Registry.{Names, changed, gone_from, ids_in, ids_of, is_retiring, retire_refusal_at, registered_at, registered_name_cmp, state_in, state_of, ids_by}
use Rattle.switch_model.specs.declared.wait.Wait.{Wait}
use Rattle.switch_model.specs.Things.{base_of}
use Rattle.switch_model.specs.Placed as row
use Rattle.orch_flight.specs.Grouping.{GroupOperation, IsGroupTook, group_names_by, members_with_made}
use Rattle.orch_flight.specs.Needing.{name_for, to_build}
use Rattle.orch_flight.specs.Operation.{Operation}
use Rattle.orch_flight.specs.Sharing.{MayStart}
use Rattle.orch_flight.specs.Starting.{begun_names, first_due, ids_for_row, leaving, left_names, parted_by, started_names, started_names_by, with_building, with_own, with_pins}
use Rattle.orch_flight.specs.Taking.{IsTook, MayBeLive, MayTake, names_after, names_by, to_list}
use Rattle.orch_flight.specs.Calling.{HasVid}
use Rattle.registry_laws.specs.Ending.{MayEnd, come_to_be, ended_names, users_passed, with_own_ended}
use Rattle.registry_laws.specs.Flown.{Flown}
use Rattle.registry_laws.specs.Flying.{HavePlacesForIdentifiers}
use Rattle.registry_laws.specs.Registers.{KnowsNames, HaveDue}
use Rattle.registry_laws.specs.Identified.{HasWholeInterfaces, Identified, is_live_or_going, IsVidOf}
use Rattle.registry_laws.proofs.Ended.{own_ended_off}
use Rattle.registry_laws.proofs.Finding.{building_off, found_at, found_off, gone_at, gone_off, own_off, pins_row, put_at_name, used_off}
use Rattle.registry_laws.proofs.Listing.{not_some}
use Rattle.registry_laws.proofs.Sharing.{absent_first, left_apart}
use Rattle.registry_laws.proofs.Identifier.Ids.{ids_made}
use Rattle.registry_laws.proofs.Identifier.Starting.{ids_passed, ids_started, state_passed}
use Rattle.registry_laws.proofs.Identifier.Took.{may_there}
use Rattle.registry_laws.specs.Known.{RowStands}
use Rattle.registry_laws.proofs.Identifier.Owning.{vid_by}

-- one identifier at most
few_ids : (n : IfName) → 1 ≤ ids_for_row (key.Intf n) → ids_for_row (key.Intf n) ≡ 1
few_ids (on.Ethernet p) h = refl
few_ids (on.Vlan v) h = refl
few_ids (on.Loopback l) h = absurd (omega (arith, h))

-- names that are there were, with as many identifiers
pub interfaces_as : (names names' : Names) → HasWholeInterfaces names → ((n : IfName) → is_live_or_going (state_of names' (name.Row (key.Intf n))) ≡ true → (is_live_or_going (state_of names (name.Row (key.Intf n))) ≡ true) × (ids_of names' (name.Row (key.Intf n)) ≡ ids_of names (name.Row (key.Intf n)))) → HasWholeInterfaces names'
interfaces_as names names' whole same = record { each = λ n there. let x = same n there in ap length x.1 ∙ whole.each n x.0 }

-- names that are registered as they were
pub interfaces_same : (names names' : Names) → HasWholeInterfaces names → ((k : Key) → registered_at names' (name.Row k) ≡ registered_at names (name.Row k)) → HasWholeInterfaces names'
interfaces_same names names' whole same = interfaces_as names names' whole (λ n there. (ap (λ x. is_live_or_going (state_in x)) (sym (same (key.Intf n))) ∙ there, ap ids_in (same (key.Intf n))))

-- ---- what is shared is left

pub left_row : (names : Names) (w : ℕ) (k : Key) (o : Owner) → IsShared o → (q : Key) → registered_at (left_names names w k o) (name.Row q) ≡ registered_at names (name.Row q)
left_row names w k o shared q = by (retire_refusal_at later w (name_for o))
  where
    later : Names
    later = changed names (name_for o) (without_user k)

    apart : o ≡ owner.OfRow q → ⊥
    apart e = shared_row o q shared e

    by : (x : Option Wait) → registered_at (parted_by x later w o) (name.Row q) ≡ registered_at names (name.Row q)
    by None = found_off later o (owner.OfRow q) (begun_to_go w) apart ∙ found_off names o (owner.OfRow q) (without_user k) apart
    by (Some wait) = found_off names o (owner.OfRow q) (without_user k) apart

-- ---- an operation starts

module _ (plan : Ports) (is : IsPlan plan) (names : Names) (w : ℕ) (k : Key) (old new : Option Row) (may : MayStart plan names w k old new) where
  abbrev pinned_names : Names
  pinned_names = with_pins names w k new

  abbrev owned_names : Names
  owned_names = with_own pinned_names w k old new

  abbrev built_names : Names
  built_names = with_building owned_names w (to_build plan names k new)

  shared_use : (o : Owner) → IsIn o (uses_of plan k new) → IsShared o
  shared_use o h = let r = use_row_in plan k new o h in are_shared_by plan is k r.0 o r.2

  build_use : (o : Owner) → to_build plan names k new ≡ Some o → IsIn o (uses_of plan k new)
  build_use o h = by new h
    where
      by : (x : Option Row) → to_build plan names k x ≡ Some o → IsIn o (uses_of plan k x)
      by None h = not_some o h
      by (Some r) h = (absent_first names _ o h).0

  begun_row : (p : Key) → registered_at (begun_names plan names w k old new) (name.Row p) ≡ registered_at owned_names (name.Row p)
  begun_row p =
      used_off w k built_names (uses_of plan k new) (owner.OfRow p) (λ h. shared_row (owner.OfRow p) p (shared_use (owner.OfRow p) h) refl)
      ∙ building_off w k owned_names (to_build plan names k new) (owner.OfRow p) (λ e. shared_row (owner.OfRow p) p (shared_use (owner.OfRow p) (build_use (owner.OfRow p) e)) refl)

  pub started_row : (p : Key) → registered_at (started_names plan names w k old new) (name.Row p) ≡ registered_at owned_names (name.Row p)
  started_row p = by (first_due plan names k old new) (leaving plan k old new) refl
    where
      by : (due : List Change) (leaves : Option Owner) → leaving plan k old new ≡ leaves → registered_at (started_names_by (begun_names plan names w k old new) w k due leaves) (name.Row p) ≡ registered_at owned_names (name.Row p)
      by [] None e = begun_row p
      by (c ∷ cs) leaves e = begun_row p
      by [] (Some o) e =
          let used = (left_apart (uses_of plan k new) (uses_of plan k old) o e).0 in
          let r = use_row_in plan k old o used in
          left_row (begun_names plan names w k old new) w k o (are_shared_by plan is k r.0 o r.2) p ∙ begun_row p

  started_state : (p : Key) → is_live_or_going (state_of (started_names plan names w k old new) (name.Row p)) ≡ true → is_live_or_going (state_of names (name.Row p)) ≡ true
  started_state p there = by (key_split k p)
    where
      own : is_live_or_going (state_of owned_names (name.Row p)) ≡ true
      own = ap (λ x. is_live_or_going (state_in x)) (sym (started_row p)) ∙ there

      of : (x : Option Row) → old ≡ x → k ≡ p → is_live_or_going (state_of (with_own pinned_names w k x new) (name.Row p)) ≡ true → is_live_or_going (state_of names (name.Row p)) ≡ true
      of None e same h = absurd (false≢true (sym (ap (λ z. is_live_or_going (state_in z)) (subst (λ q. registered_at (with_own pinned_names w k None new) (name.Row q) ≡ Some (begun w (ids_for_row k))) same (put_at_name pinned_names (owner.OfRow k) (begun w (ids_for_row k))))) ∙ h))
      of (Some a) e same h = ap is_live_or_going (ap (λ q. state_of names (name.Row q)) (sym same) ∙ may.applied a e)

      by : IsSplit k p → is_live_or_going (state_of names (name.Row p)) ≡ true
      by (inl same) = of old refl same own
      by (inr apart) = ap is_live_or_going (sym (ap state_in (own_off w k pinned_names old new (owner.OfRow p) (λ e. apart (row_keys k p e))) ∙ (pins_row w k names new p).state)) ∙ own

  pub interfaces_started : HasWholeInterfaces names → HasWholeInterfaces (started_names plan names w k old new)
  interfaces_started whole = interfaces_as names (started_names plan names w k old new) whole (λ n there. (started_state (key.Intf n) there, ids_started plan is names w k old new may (owner.OfRow (key.Intf n))))

-- ---- a call of a row's operation is made

module _ (names : Names) (f : Operation) (made : Option Vid) (placed : HavePlacesForIdentifiers names) (whole : HasWholeInterfaces names) where
  -- the row's name is live, with this identifier
  live_row : (ids : List Vid) → MayBeLive names f.worker (name.Row f.key) f.now ids → 1 ≤ length ids → HasWholeInterfaces (changed names (name.Row f.key) (made_live ids))
  live_row ids may some = record { each = λ n there. by n there (key_split f.key (key.Intf n)) }
    where
      later : Names
      later = changed names (name.Row f.key) (made_live ids)

      count : (n : IfName) → f.key ≡ key.Intf n → (now : Option Row) → MayBeLive names f.worker (name.Row (key.Intf n)) now ids → length ids ≡ ids_for_row (key.Intf n)
      count n same None h =
          let most : length ids ≤ ids_for_row (key.Intf n) = subst (λ z. length ids ≤ z) (placed (owner.OfRow (key.Intf n)) f.worker h.0) h.1 in
          let one = few_ids n (omega (arith, most, some)) in
          omega (arith, most, some, one)
      count n same (Some r) h = h.1 ∙ whole.each n (ap is_live_or_going h.0)

      by : (n : IfName) → is_live_or_going (state_of later (name.Row (key.Intf n))) ≡ true → IsSplit f.key (key.Intf n) → length (ids_of later (name.Row (key.Intf n))) ≡ ids_for_row (key.Intf n)
      by n there (inl same) = ap (λ k. length (ids_of later (name.Row k))) (sym same) ∙ ap length (ids_made names (owner.OfRow f.key) ids (may_there names f.worker (name.Row f.key) f.now ids may)) ∙ count n same f.now (subst (λ q. MayBeLive names f.worker (name.Row q) f.now ids) same may)
      by n there (inr apart) =
          let off = found_off names (owner.OfRow f.key) (owner.OfRow (key.Intf n)) (made_live ids) (λ e. apart (row_keys f.key (key.Intf n) e)) in
          ap (λ x. length (ids_in x)) off ∙ whole.each n (ap (λ x. is_live_or_going (state_in x)) (sym off) ∙ there)

  -- the name of what is shared
  shared_live : (o : Owner) → IsShared o → (ids : List Vid) → HasWholeInterfaces (changed names (name_for o) (made_live ids))
  shared_live o shared ids = interfaces_same names (changed names (name_for o) (made_live ids)) whole (λ k. found_off names o (owner.OfRow k) (made_live ids) (λ e. shared_row o k shared e))

  shared_gone : (o : Owner) → IsShared o → HasWholeInterfaces (gone_from names (name_for o))
  shared_gone o shared = interfaces_same names (gone_from names (name_for o)) whole (λ k. gone_off names o (owner.OfRow k) (λ e. shared_row o k shared e))

  one_id : (v : Option Vid) → is_some v ≡ true → 1 ≤ length (to_list v)
  one_id None h = absurd (false≢true h)
  one_id (Some v) h = omega arith

  after_row : (may : MayTake f made names) (c : Change) (rest : List Change) → f.due ≡ c ∷ rest → HasWholeInterfaces (names_after names f.key c made)
  after_row may (Make (thing.Port p)) rest due = live_row (to_list made) (may.builds (thing.Port p) rest (name.Row f.key) due refl) (one_id made (may.numbered (thing.Port p) rest due))
  after_row may (Make (thing.Vlan v)) rest due = live_row (to_list made) (may.builds (thing.Vlan v) rest (name.Row f.key) due refl) (one_id made (may.numbered (thing.Vlan v) rest due))
  after_row may (Make (thing.VirtualRouter label)) rest due = live_row (to_list made) (may.builds (thing.VirtualRouter label) rest (name.Row f.key) due refl) (one_id made (may.numbered (thing.VirtualRouter label) rest due))
  after_row may (Make (thing.VlanMember v lane x)) rest due = live_row (to_list made) (may.builds (thing.VlanMember v lane x) rest (name.Row f.key) due refl) (one_id made (may.numbered (thing.VlanMember v lane x) rest due))
  after_row may (Make (thing.Rif b v)) rest due = live_row (to_list made) (may.builds (thing.Rif b v) rest (name.Row f.key) due refl) (one_id made (may.numbered (thing.Rif b v) rest due))
  after_row may (Make (thing.NextHop hop)) rest due = live_row (to_list made) (may.builds (thing.NextHop hop) rest (name.Row f.key) due refl) (one_id made (may.numbered (thing.NextHop hop) rest due))
  after_row may (Make (thing.BridgePort lane)) rest due = shared_live (owner.Bridge lane) tt (to_list made)
  after_row may (Make (thing.Own v ip)) rest due = shared_live (owner.Own v ip) tt []
  after_row may (Make (thing.Neighbor hop mac)) rest due = whole
  after_row may (Make (thing.Route v prefix goal)) rest due = whole
  after_row may (Make (thing.Group hops)) rest due = whole
  after_row may (Make (thing.GroupMember hops hop)) rest due = whole
  after_row may (Set u) rest due = whole
  after_row may (Take (thing_name.BridgePort lane)) rest due = shared_gone (owner.Bridge lane) tt
  after_row may (Take (thing_name.Own v ip)) rest due = shared_gone (owner.Own v ip) tt
  after_row may (Take n) rest due = whole

  pub interfaces_took : (f' : Operation) (names' : Names) → MayTake f made names → IsTook f made names f' names' → ((o : Owner) → f.leaves ≡ Some o → IsShared o) → HasWholeInterfaces names'
  interfaces_took f' names' may took shared = subst HasWholeInterfaces (sym took.names_are) (by took.rest f.leaves refl)
    where
      later : Names
      later = names_after names f.key took.change made

      whole_later : HasWholeInterfaces later
      whole_later = after_row may took.change took.rest took.due

      by : (rest : List Change) (leaves : Option Owner) → f.leaves ≡ leaves → HasWholeInterfaces (names_by later f rest leaves)
      by [] (Some o) e = interfaces_same later (left_names later f.worker f.key o) whole_later (left_row later f.worker f.key o (shared o e))
      by [] None e = whole_later
      by (c ∷ cs) leaves e = whole_later

-- ---- a call of a group's operation is made

pub interfaces_grouped : (names names' : Names) (g g' : GroupOperation) (made : Option Vid) → IsGroupTook g made names g' names' → HasWholeInterfaces names → HasWholeInterfaces names'
interfaces_grouped names names' g g' made took whole = subst HasWholeInterfaces (sym took.names_are) (by took.rest)
  where
    of : (b : Bool) → HasWholeInterfaces (if b then changed names (name.Group g.hops) (made_live (members_with_made g made)) else gone_from names (name.Group g.hops))
    of true = interfaces_same names (changed names (name.Group g.hops) (made_live (members_with_made g made))) whole (λ k. found_off names (owner.Group g.hops) (owner.OfRow k) (made_live (members_with_made g made)) (λ e. cc))
    of false = interfaces_same names (gone_from names (name.Group g.hops)) whole (λ k. gone_off names (owner.Group g.hops) (owner.OfRow k) (λ e. cc))

    by : (rest : List Change) → HasWholeInterfaces (group_names_by names g (members_with_made g made) rest)
    by [] = of g.builds
    by (c ∷ cs) = whole

-- ---- what an interface is on

-- an applied interface other than a Loopback is on something
pub on_base : (plan : Ports) (t : Machine) → IsConsistent plan t → (k : Key) (r : Row) → t.board.applied k ≡ Some r → (n : IfName) → k ≡ key.Intf n → ((l : ℕ) → n ≡ on.Loopback l → ⊥) → (b : Base) × (base_of plan n ≡ Some b)
on_base plan t sound k r at (on.Loopback l) same other = absurd (other l refl)
on_base plan t sound k r at (on.Vlan l) same other = (base.Vlan l, refl)
on_base plan t sound k r at (on.Ethernet p) same other = of r at (subst (λ q. Fits plan q r) same (sound.board.fit k r (inl at)))
  where
    port : (y : Row) → Fits plan (key.Port p) y → (b : Base) × (base_of plan (on.Ethernet p) ≡ Some b)
    port (row.Port y) fit = (base.Port (first_lane y.lanes), ap (λ o. option_map base.Port (option_map first_lane o)) fit)
    port y fit = elim fit [ ]

    of : (r : Row) → t.board.applied k ≡ Some r → Fits plan (key.Intf (on.Ethernet p)) r → (b : Base) × (base_of plan (on.Ethernet p) ≡ Some b)
    of (row.Intf v) at fit =
        let stays = sound.board.named (key.Intf (on.Ethernet p)) (key.Port p) (row.Intf v) (inl (sym (ap t.board.applied same) ∙ at)) (inl refl) in
        port stays.row (sound.board.fit (key.Port p) stays.row (inl stays.applied))
    of r at fit = elim fit [ ]

-- ---- an operation ends

module _ (plan : Ports) (is : IsPlan plan) (t : Machine) (sound : IsConsistent plan t) (busy : HaveDue t) (names : Names) (w : ℕ) (k : Key) (old new : Option Row) (rid : Vid → Option Rid) (flown : ℕ → Option Flown) (may : MayEnd names w k new) (whole : HasWholeInterfaces names) (known : Identified plan names rid flown t.stands) (rising : HasRisingKeys registered_name_cmp (users_passed names w k old)) (knows : KnowsNames plan (ended_names names w k old new) t) where
  abbrev passed : Names
  passed = users_passed names w k old

  abbrev ended : Names
  ended = ended_names names w k old new

  -- a name that was being built comes to be live, and its row stays
  firm_then : (r : Row) → new ≡ Some r → (v : ℕ) → state_of passed (name.Row k) ≡ state.Building v → IsFirm t.board k
  firm_then r now v st = by (subst (RowStands t k) live (knows.rows k).stands)
    where
      made : (x : Option Registered) → state_in x ≡ state.Building v → state_in (option_map (made_live []) x) ≡ state.Live
      made None e = cc
      made (Some y) e = refl

      live : state_of ended (name.Row k) ≡ state.Live
      live =
          ap (λ (z : Option Row). state_of (with_own_ended passed k z) (name.Row k)) now
          ∙ ap (λ z. state_of (come_to_be z passed (name.Row k)) (name.Row k)) st
          ∙ ap state_in (found_at passed (owner.OfRow k) (made_live [])) ∙ made (registered_at passed (name.Row k)) st

      by : RowStands t k state.Live → IsFirm t.board k
      by (inl firm) = firm
      by (inr made) = absurd (busy made.worker made.flight made.flying made.done)

  -- a name that now being built has no identifier
  none_built : (x : Option Registered) (v : ℕ) → state_in x ≡ state.Building v → ids_in x ≡ []
  none_built None v e = refl
  none_built (Some r) v e = ap (λ z. ids_by z r.ids) e

  -- its router interface stands, and has an identifier
  no_rif : (n : IfName) → k ≡ key.Intf n → (v : ℕ) → state_of names (name.Row k) ≡ state.Building v → IsFirm t.board k → (b : Base) × (base_of plan n ≡ Some b) → ⊥
  no_rif n same v st firm (b, at) = by (subst (λ z. IsVidOf plan names flown z x.0) there.2 x.1)
    where
      own : IsIn (thing_name.Rif b) (own_names plan k)
      own = subst (λ q. IsIn (thing_name.Rif b) (own_names plan q)) (sym same) (in_from (base_of plan n) (λ c. thing_name.Rif c ∷ []) b (thing_name.Rif b) at (inl refl))

      there : HasName (StandsIn t) (thing_name.Rif b)
      there = sound.present k (thing_name.Rif b) firm own

      x : (v : Vid) × IsVidOf plan names flown (name_of there.0) v × (rid v ≡ Some there.1.0)
      x = known.each there.1.0 there.0 there.1.1 (ap (λ z. is_numbered (name_kind z)) there.2)

      none : HasVid plan names (thing_name.Rif b) x.0 → ⊥
      none has = not_some x.0 (sym (vid_by plan names (thing_name.Rif b) (owner.OfRow k) refl tt ((tabled plan is).names_own k (thing_name.Rif b) own) ∙ ap first_of (none_built (registered_at names (name.Row k)) v st)) ∙ has)

      by : IsVidOf plan names flown (thing_name.Rif b) x.0 → ⊥
      by (inl has) = none has
      by (inr built) = none built.of

  -- a name that was being built until the end now of a row whose objects have no identifier
  unbuilt : (n : IfName) → k ≡ key.Intf n → (r : Row) → new ≡ Some r → (v : ℕ) → state_of passed (name.Row k) ≡ state.Building v → 0 ≡ ids_for_row (key.Intf n)
  unbuilt n same r now v st = by n same (λ other. no_rif n same v (sym (state_passed names w k old (owner.OfRow k)) ∙ st) firm (on_base plan t sound k firm.row firm.applied n same other))
    where
      firm : IsFirm t.board k
      firm = firm_then r now v st

      by : (n : IfName) → k ≡ key.Intf n → (((l : ℕ) → n ≡ on.Loopback l → ⊥) → ⊥) → 0 ≡ ids_for_row (key.Intf n)
      by (on.Loopback l) same none = refl
      by (on.Ethernet p) same none = absurd (none (λ l e. cc))
      by (on.Vlan l) same none = absurd (none (λ q e. cc))

  passed_whole : HasWholeInterfaces passed
  passed_whole = interfaces_as names passed whole (λ n there. (ap is_live_or_going (sym (state_passed names w k old (owner.OfRow (key.Intf n)))) ∙ there, ids_passed names w k old (owner.OfRow (key.Intf n))))

  -- names that stay as they are when the users have passed
  stays : (n : IfName) → k ≡ key.Intf n → (names' : Names) → names' ≡ passed → is_live_or_going (state_of names' (name.Row k)) ≡ true → length (ids_of names' (name.Row k)) ≡ ids_for_row (key.Intf n)
  stays n same names' now there =
      ap (λ (z : Names). length (ids_of z (name.Row k))) now ∙ ap (λ q. length (ids_of passed (name.Row q))) same
      ∙ passed_whole.each n (ap (λ q. is_live_or_going (state_of passed (name.Row q))) (sym same) ∙ ap (λ (z : Names). is_live_or_going (state_of z (name.Row k))) (sym now) ∙ there)

  -- the name comes to be live with no identifier
  emptied : (n : IfName) → (st : NameState) → state_of passed (name.Row k) ≡ st → (st ≡ state.Absent → ⊥) → 0 ≡ ids_for_row (key.Intf n) → length (ids_of (changed passed (name.Row k) (made_live [])) (name.Row k)) ≡ ids_for_row (key.Intf n)
  emptied n st e there none = ap length (ids_made passed (owner.OfRow k) [] (λ absent. there (sym e ∙ absent))) ∙ none

  state_was : (st : NameState) → state_of passed (name.Row k) ≡ st → state_of names (name.Row k) ≡ st
  state_was st e = sym (state_passed names w k old (owner.OfRow k)) ∙ e

  own : (n : IfName) → k ≡ key.Intf n → (x : Option Row) → new ≡ x → (st : NameState) → state_of passed (name.Row k) ≡ st → is_live_or_going (state_of (with_own_ended passed k x) (name.Row k)) ≡ true → length (ids_of (with_own_ended passed k x) (name.Row k)) ≡ ids_for_row (key.Intf n)
  own n same (Some r) now state.Absent e there = stays n same (with_own_ended passed k (Some r)) (ap (λ z. come_to_be z passed (name.Row k)) e) there
  own n same (Some r) now state.Live e there = stays n same (with_own_ended passed k (Some r)) (ap (λ z. come_to_be z passed (name.Row k)) e) there
  own n same (Some r) now (state.Building v) e there = ap (λ z. length (ids_of (come_to_be z passed (name.Row k)) (name.Row k))) e ∙ emptied n (state.Building v) e (λ h. cc) (unbuilt n same r now v e)
  own n same (Some r) now (state.Retiring v) e there =
      let was = state_was (state.Retiring v) e in
      let none = (subst (MayEnd names w k) now may v was).1 in
      let count = whole.each n (ap (λ q. is_live_or_going (state_of names (name.Row q))) (sym same) ∙ ap is_live_or_going was) in
      ap (λ z. length (ids_of (come_to_be z passed (name.Row k)) (name.Row k))) e ∙ emptied n (state.Retiring v) e (λ h. cc) (sym (ap (λ q. length (ids_of names (name.Row q))) (sym same) ∙ ap length none) ∙ count)
  own n same None now (state.Retiring v) e there = absurd (false≢true (sym (ap (λ x. is_live_or_going (state_in x)) (gone_at passed (owner.OfRow k) v rising e)) ∙ there))
  own n same None now state.Absent e there = stays n same (with_own_ended passed k None) (ap (λ z. cond (is_retiring z) (remove_entry (is_at (registered_name_cmp (name.Row k))) passed) passed) e) there
  own n same None now state.Live e there = stays n same (with_own_ended passed k None) (ap (λ z. cond (is_retiring z) (remove_entry (is_at (registered_name_cmp (name.Row k))) passed) passed) e) there
  own n same None now (state.Building v) e there = stays n same (with_own_ended passed k None) (ap (λ z. cond (is_retiring z) (remove_entry (is_at (registered_name_cmp (name.Row k))) passed) passed) e) there

  pub interfaces_ended : HasWholeInterfaces ended
  interfaces_ended = record { each = λ n there. by n there (key_split k (key.Intf n)) }
    where
      by : (n : IfName) → is_live_or_going (state_of ended (name.Row (key.Intf n))) ≡ true → IsSplit k (key.Intf n) → length (ids_of ended (name.Row (key.Intf n))) ≡ ids_for_row (key.Intf n)
      by n there (inl same) = ap (λ q. length (ids_of ended (name.Row q))) (sym same) ∙ own n same new refl (state_of passed (name.Row k)) refl (ap (λ q. is_live_or_going (state_of ended (name.Row q))) same ∙ there)
      by n there (inr apart) =
          let off = own_ended_off passed k new (owner.OfRow (key.Intf n)) (λ e. apart (row_keys k (key.Intf n) e)) in
          ap (λ x. length (ids_in x)) off ∙ passed_whole.each n (ap (λ x. is_live_or_going (state_in x)) (sym off) ∙ there)

-- an operation with its changes in order may start, and what is left by its last user may be retired
use Rattle.std.proofs.Common.{◌≡◌, ◌⊎◌, ◌∷◌, ◌∙◌, inl, inr, ℕ, Bool, List, [], Option, None, Some, refl, sym, ap, ap₂, subst}
use Rattle.table_schema.specs.Plan.{Ports, IsPlan}
use Rattle.table_schema.specs.declared.key.Key.{Key}
use Rattle.sai_types.specs.declared.thing.Thing.{Thing}
use Rattle.sai_types.specs.Alike.{IsIn}
use Rattle.sai_types.specs.Names.{ThingName, Refers, name_of}
use Rattle.switch_model.specs.Placed.{Placed as Row}
use Rattle.row_layout.specs.Rows.{Owner, OfRow, own_things}
use Rattle.row_layout.specs.Shared.{shared_things, uses}
use Rattle.row_layout.specs.Operations.{Change, Make, Set, Take, make_all, own_changes, own_sets, shared_going, take_all, uses_of}
use Rattle.switch_machine.specs.Changes.{after, changed_name}
use Rattle.switch_machine.specs.Flights.{Can, Concerns, Fits, MachineFlight, Goes, IsConcern, IsFinal, IsOwnedBy, IsShared, HasChangeOf, IsUser, Machine, Runs, StandsIn, goes_over, own_of}
use Rattle.switch_machine.specs.Operations.{MayBegin, IsLast, built_first}
use Rattle.switch_machine.specs.Tables.{Orders, IsNamed, TableLaws}
use Rattle.switch_machine.specs.Steps.{LeavesLast, Starts, left, parted, started}
use Rattle.switch_machine.specs.Consistent.{IsUsedOrRetired, IsConsistent, WasUsed}
use Rattle.switch_machine.proofs.Running.{final-concern, no_retire, one_owner, own_row, shared_of, shared_row, stays}
use Rattle.switch_machine.proofs.Moving.{fit_of, used_shared}
use Rattle.switch_machine.proofs.Leaving.{leaver, no_change, runs_done, sound-retiring}
use Rattle.switch_machine.proofs.Starting.{sound-started}
use Rattle.switch_machine.proofs.Operating.{Ready, added, built, finish, minus, removed, take_runs}
use Rattle.switch_machine.proofs.Changing.{changed-runs, changes, one_row}
use Rattle.switch_machine.proofs.Ordered.{ordered}
use Rattle.switch_machine.proofs.Tabled.{tabled}
use Rattle.switch_machine.proofs.Splits.{use_row_in}

-- ---- changes of what stands whole

module _ (plan : Ports) (tables : TableLaws plan) (f : MachineFlight) (fit : (r : Row) → f.new ≡ Some r → Fits plan f.key r) (none : f.retires ≡ None) (p : Owner) (usage : IsIn p (uses_of plan f.key f.new)) where
  shared : IsShared p
  shared = let r = use_row_in plan f.key f.new p usage in tables.are_shared f.key r.0 p r.2

  not_its : (V : Thing → Type 0) (c : Change) → ((u : Thing) → IsIn u (shared_things p) → V u) → Can plan f V c → IsOwnedBy plan (changed_name c) p → ⊥
  not_its V (Make t) whole can of = can.fresh t (whole t (shared_of plan tables f fit t p of shared can.final).1) refl
  not_its V (Set t) whole can of = shared_row p f.key shared (one_owner plan (name_of t) p (OfRow f.key) of can.own)
  not_its V (Take n) whole can of = by can.goes
    where
      by : Goes plan f n → ⊥
      by (inl own) = shared_row p f.key shared (one_owner plan n p (OfRow f.key) of own.0)
      by (inr x) = no_retire f.retires x.0 none x.2

  -- of what stands whole no change is due
  not_touched : (due : List Change) (V : Thing → Type 0) → Runs plan f V due → ((u : Thing) → IsIn u (shared_things p) → V u) → HasChangeOf plan due p → ⊥
  not_touched [] V runs whole t = elim t.1 [ ]
  not_touched (c ∷ cs) V runs whole (d, inl is, of) = not_its V c whole runs.0 (subst (λ z. IsOwnedBy plan (changed_name z) p) is of)
  not_touched (c ∷ cs) V runs whole (d, inr h, of) =
      not_touched cs (λ u. after c (V u) u) runs.1 (λ u in_it. stays c (V u) u (λ e. not_its V c whole runs.0 (subst (λ n. IsOwnedBy plan n p) e (tables.shared p u in_it))) (whole u in_it)) (d, h, of)

make_in : (ts : List Thing) (own : List Change) (c : Change) → IsIn c (make_all ts own) → ((t : Thing) × IsIn t ts × (c ≡ Make t)) ⊎ IsIn c own
make_in [] own c h = inr h
make_in (t ∷ ts) own c (inl e) = inl (t, inl refl, e)
make_in (t ∷ ts) own c (inr h) = by (make_in ts own c h)
  where
    by : ((x : Thing) × IsIn x ts × (c ≡ Make x)) ⊎ IsIn c own → ((x : Thing) × IsIn x (t ∷ ts) × (c ≡ Make x)) ⊎ IsIn c own
    by (inl x) = inl (x.0, inr x.1, x.2)
    by (inr h) = inr h

pub take_in : (ts : List Thing) (c : Change) → IsIn c (take_all ts []) → (t : Thing) × IsIn t ts × (c ≡ Take (name_of t))
take_in [] c h = elim h [ ]
take_in (t ∷ ts) c (inl e) = (t, inl refl, e)
take_in (t ∷ ts) c (inr h) = let x = take_in ts c h in (x.0, inr x.1, x.2)

-- the concern of each change that is due
module _ (plan : Ports) (tables : TableLaws plan) (f : MachineFlight) (fit : (r : Row) → f.new ≡ Some r → Fits plan f.key r) where
  can_concern : (V : Thing → Type 0) (c : Change) → Can plan f V c → IsConcern plan f (changed_name c)
  can_concern V (Make t) can = final-concern plan tables f fit t can.final
  can_concern V (Set t) can = (OfRow f.key, can.own, inl refl)
  can_concern V (Take n) can = by can.goes
    where
      by : Goes plan f n → IsConcern plan f n
      by (inl own) = (OfRow f.key, own.0, inl refl)
      by (inr x) = (x.0, x.1, inr (inr x.2))

  pub touched_concern : (due : List Change) (V : Thing → Type 0) (p : Owner) → Runs plan f V due → HasChangeOf plan due p → Concerns plan f p
  touched_concern [] V p runs t = elim t.1 [ ]
  touched_concern (c ∷ cs) V p runs (d, inl is, of) =
      let x = can_concern V c runs.0 in
      subst (Concerns plan f) (one_owner plan (changed_name c) x.0 p x.1 (subst (λ z. IsOwnedBy plan (changed_name z) p) is of)) x.2
  touched_concern (c ∷ cs) V p runs (d, inr h, of) = touched_concern cs (λ u. after c (V u) u) p runs.1 (d, h, of)

module _ (plan : Ports) (is : IsPlan plan) (m : Machine) (sound : IsConsistent plan m) where
  abbrev T : TableLaws plan
  T = tabled plan is

  abbrev O : Orders plan
  O = ordered plan is

  -- ---- an operation begins
  module _ (w : ℕ) (f : MachineFlight) (due : List Change) (begins : MayBegin plan m w f due) where
    abbrev IsReady : List Thing → (Thing → Type 0) → Type 0
    IsReady ts V = Ready plan T f begins.fit ts V

    -- the own part, by the rows
    own_runs : (old new : Option Row) → m.board.applied f.key ≡ old → f.new ≡ new → (V : Thing → Type 0) → IsReady (own_of plan f.key old) V → Runs plan f V (own_changes plan f.key old new)
    own_runs None None e g V ready = finish plan T f begins.fit O begins.none V (subst (λ z. IsReady (own_of plan f.key z) V) (sym g) ready)
    own_runs None (Some r) e g V ready = added plan T f begins.fit O begins.none r g V ready
    own_runs (Some a) None e g V ready = removed plan T f begins.fit O begins.none a (sound.board.fit f.key a (inl e)) (begins.goes ∙ ap (goes_over f.key (m.board.applied f.key)) g) g V ready
    own_runs (Some a) (Some r) e g V ready = with_row r g begins.fit (begins.goes ∙ ap₂ (goes_over f.key) e g) ready (changed-runs plan is f.key a r f.leaves (sound.board.fit f.key a (inl e)) (begins.fit r g) V)
      where
        -- the flight as it is written out
        with_row : (r : Row) (g : f.new ≡ Some r) (fit : (x : Row) → f.new ≡ Some x → Fits plan f.key x) → f.goes ≡ goes_over f.key (Some a) (Some r) → Ready plan T f fit (own_things plan f.key a) V → (Ready plan T (changes f.key r f.leaves (goes_over f.key (Some a) (Some r))) (λ x h. one_row plan f.key r x (fit r g) h) (own_things plan f.key a) V → Runs plan (changes f.key r f.leaves (goes_over f.key (Some a) (Some r))) V (own_sets plan f.key a r)) → Runs plan f V (own_sets plan f.key a r)
        with_row r g fit goes ready runs =
            let same : changes f.key r f.leaves (goes_over f.key (Some a) (Some r)) ≡ f = written f (Some r) None (goes_over f.key (Some a) (Some r)) g begins.none goes in
            subst (λ z. Runs plan z V (own_sets plan f.key a r)) same (runs (record {
              own = ready.own;
              shared = λ o u usage of. ready.shared o u (subst (λ z. IsIn o (uses_of plan f.key z)) (sym g) usage) of;
            }))
          where
            written : (f : MachineFlight) (n : Option Row) (x : Option Owner) (b : Bool) → f.new ≡ n → f.retires ≡ x → f.goes ≡ b → record { key = f.key; new = n; leaves = f.leaves; retires = x; goes = b } ≡ f
            written f n x b h k i = let made : Option Row → Option Owner → Bool → MachineFlight = λ n x b. record { key = f.key; new = n; leaves = f.leaves; retires = x; goes = b } in ap₂ (λ n x. made n x b) (sym h) (sym k) ∙ ap (made f.new f.retires) (sym i)

    own_view : (u : Thing) → IsOwnedBy plan (name_of u) (OfRow f.key) → (StandsIn m u → IsIn u (own_of plan f.key (m.board.applied f.key))) × (IsIn u (own_of plan f.key (m.board.applied f.key)) → StandsIn m u)
    own_view u of = sound.rest f.key u begins.rests of

    use_shared : (o : Owner) → IsIn o (uses_of plan f.key f.new) → IsShared o
    use_shared o h = let r = use_row_in plan f.key f.new o h in T.are_shared f.key r.0 o r.2

    -- what has a user and is free stands whole
    stands_whole : (o : Owner) → IsIn o (uses_of plan f.key f.new) → (k : Key) × IsUser plan m.board k o → (u : Thing) → IsIn u (shared_things o) → StandsIn m u
    stands_whole o usage x u h = sound.whole x.0 o u x.1 (λ v g there t. (begins.free o usage v g there).0 t) h

    -- what has no user and is free doesn't stand
    stands_not : (o : Owner) → IsIn o (uses_of plan f.key f.new) → ((k : Key) → IsUser plan m.board k o → ⊥) → (u : Thing) → IsOwnedBy plan (name_of u) o → StandsIn m u → ⊥
    stands_not o usage absent u of h = by (sound.held o u h of (use_shared o usage)).1
      where
        by : IsUsedOrRetired plan m.board o → ⊥
        by (inl x) = absent x.0 x.1
        by (inr (v, g, there, retires)) = (begins.free o usage v g there).1 retires

    abbrev own : List Change
    own = own_changes plan f.key (m.board.applied f.key) f.new

    next : (V : Thing → Type 0) → IsReady (own_of plan f.key (m.board.applied f.key)) V → Runs plan f V own
    next V ready = own_runs (m.board.applied f.key) f.new refl refl V ready

    runs_by : (builds : Option Owner) → begins.operation.builds ≡ builds → Runs plan f (StandsIn m) (built_first builds own)
    runs_by (Some o) e =
        let x = begins.operation.built o e in
        built plan T f begins.fit O begins.none o own (own_of plan f.key (m.board.applied f.key)) (StandsIn m) x.0 (stands_not o x.0 x.1) own_view next
    runs_by None e = next (StandsIn m) (record {
      own = own_view;
      shared = λ o u usage of. (λ h. (sound.held o u h of (use_shared o usage)).0, λ h. stands_whole o usage (begins.operation.found e o usage) u h);
    })

    runs : Runs plan f (StandsIn m) due
    runs = subst (Runs plan f (StandsIn m)) (sym begins.operation.is) (runs_by begins.operation.builds refl)

    alone_by : (builds : Option Owner) → begins.operation.builds ≡ builds → (k : Key) (p : Owner) → HasChangeOf plan due p → IsUser plan m.board k p → Concerns plan f p → k ≡ f.key
    alone_by builds e k p t user (inl own) = absurd (shared_row p f.key (used_shared plan T m sound k p user) own)
    alone_by builds e k p t user (inr (inr retires)) = absurd (no_retire f.retires p begins.none retires)
    alone_by None e k p t user (inr (inl usage)) = absurd (not_touched plan T f begins.fit begins.none p usage due (StandsIn m) runs (stands_whole p usage (k, user)) t)
    alone_by (Some o) e k p t user (inr (inl usage)) =
        let x = begins.operation.built o e in
        let r = use_row_in plan f.key f.new o x.0 in
        let same : o ≡ p = O.one_use f.key r.0 o p r.2 (subst (λ z. IsIn p (uses_of plan f.key z)) r.1 usage) in
        absurd (x.1 k (subst (IsUser plan m.board k) (sym same) user))

    pub starts : Starts plan m w f due
    starts = record {
      idle = begins.idle;
      rests = begins.rests;
      fit = begins.fit;
      named = begins.named;
      goes = begins.goes;
      inside = begins.inside;
      unnamed = begins.unnamed;
      free = begins.free;
      none = begins.none;
      leaves = begins.leaves;
      covers = begins.covers;
      alone = λ k p t user. alone_by begins.operation.builds refl k p t user (touched_concern plan T f begins.fit due (StandsIn m) p runs t);
      runs = runs;
    }

    pub sound-begun : IsConsistent plan (started m w f due)
    sound-begun = sound-started plan T m sound w f due starts

  -- ---- what is left by its last user is retired
  module _ (w : ℕ) (f : MachineFlight) (o : Owner) (x : IsLast plan m w f o) where
    abbrev g' : MachineFlight
    g' = parted f (Some o)

    fits : (r : Row) → f.new ≡ Some r → Fits plan f.key r
    fits = fit_of plan T m sound w f x.leaving.flying

    known : WasUsed plan m.board.applied f.key o × (IsIn o (uses_of plan f.key f.new) → ⊥) × (f.retires ≡ None)
    known = sound.board.leaves w f o x.leaving.flying x.leaving.leaves

    o_shared : IsShared o
    o_shared = T.are_shared f.key known.0.row o known.0.used

    still : (v : ℕ) (g : MachineFlight) → m.board.flights v ≡ Some g → HasChangeOf plan (m.due v) o → ⊥
    still v g there t =
        let same = sound.board.one w v f g x.leaving.flying there (sound.quiet v g f.key o there t (leaver plan T m sound w f o x.leaving)) in
        no_change t.0 (m.due v) t.1 (ap m.due (sym same) ∙ x.leaving.done)

    final : (u : Thing) → IsConcern plan f (name_of u) → (StandsIn m u → IsFinal plan f u) × (IsFinal plan f u → StandsIn m u)
    final = runs_done plan T m sound w f o x.leaving

    of_going : (t : Thing) → IsIn t (shared_going o) → IsIn t (shared_things o)
    of_going t h = (O.shared_going_same o).into t h

    -- what belongs to no row is not of a row that is named
    not_named : (k : Key) (r : Row) (n : ThingName) → IsNamed plan k r n → IsOwnedBy plan n o → ⊥
    not_named k r n named of = shared_row o named.by o_shared (one_owner plan n o (OfRow named.by) of (T.names_own named.by n named.own))

    before_by : (t u : Thing) → IsIn t (shared_going o) → StandsIn m u → Refers u (name_of t) → (p : Owner) → IsOwnedBy plan (name_of u) p → Concerns plan g' p → IsIn u (shared_things o) ⊎ ⊥
    before_by t u h v refers p of (inr (inr retires)) =
        let same : o ≡ p = cc in
        inl (sound.held o u v (subst (IsOwnedBy plan (name_of u)) (sym same) of) o_shared).0
    before_by t u h v refers p of (inl own) =
        let r = own_row plan T f fits u f.key (of ∙ ap Some own) ((final u (p, of, inl own)).0 v) in
        by r.0 r.1 (T.own_refers f.key r.0 u (name_of t) (fits r.0 r.1) r.3 refers)
      where
        by : (r : Row) → f.new ≡ Some r → IsNamed plan f.key r (name_of t) ⊎ (IsOwnedBy plan (name_of t) (OfRow f.key) ⊎ ((q : Owner) × IsOwnedBy plan (name_of t) q × IsIn q (uses plan f.key r))) → IsIn u (shared_things o) ⊎ ⊥
        by r new (inl named) = absurd (not_named f.key r (name_of t) named (T.shared o t (of_going t h)))
        by r new (inr (inl own)) = absurd (shared_row o f.key o_shared (one_owner plan (name_of t) o (OfRow f.key) (T.shared o t (of_going t h)) own))
        by r new (inr (inr y)) = absurd (known.1 (subst (λ z. IsIn o (uses_of plan f.key z)) (sym new) (subst (λ q. IsIn q (uses plan f.key r)) (one_owner plan (name_of t) y.0 o y.1 (T.shared o t (of_going t h))) y.2)))
    before_by t u h v refers p of (inr (inl usage)) =
        let r = use_row_in plan f.key f.new p usage in
        let in_it = (sound.held p u v of (T.are_shared f.key r.0 p r.2)).0 in
        by r.0 (T.shared_refers f.key r.0 p u (name_of t) (fits r.0 r.1) r.2 in_it refers)
      where
        by : (r : Row) → IsNamed plan f.key r (name_of t) ⊎ IsOwnedBy plan (name_of t) p → IsIn u (shared_things o) ⊎ ⊥
        by r (inl named) = absurd (not_named f.key r (name_of t) named (T.shared o t (of_going t h)))
        by r (inr that) = absurd (known.1 (subst (λ q. IsIn q (uses_of plan f.key f.new)) (one_owner plan (name_of t) p o that (T.shared o t (of_going t h))) usage))

    its : (u : Thing) → IsIn u (shared_things o) ⊎ ⊥ → IsIn u (shared_things o)
    its u (inl h) = h
    its u (inr h) = elim h [ ]

    -- things of the key's other owners stay
    others : (u : Thing) (p : Owner) → IsOwnedBy plan (name_of u) p → (p ≡ o → ⊥) → (t : Thing) → IsIn t (shared_going o) → name_of u ≡ name_of t → ⊥
    others u p of apart t h e = apart (one_owner plan (name_of t) p o (subst (λ n. IsOwnedBy plan n p) e of) (T.shared o t (of_going t h)))

    own_apart : OfRow f.key ≡ o → ⊥
    own_apart e = shared_row o f.key o_shared (sym e)

    gone : Runs plan g' (minus (StandsIn m) (shared_going o)) []
    gone u (p, of, inl own) =
        let y = final u (p, of, inl own) in
        (λ h. y.0 h.0, λ h. (y.1 h, others u p of (λ e. own_apart (sym own ∙ e))))
    gone u (p, of, inr (inl usage)) =
        let y = final u (p, of, inr (inl usage)) in
        (λ h. y.0 h.0, λ h. (y.1 h, others u p of (λ e. known.1 (subst (λ q. IsIn q (uses_of plan f.key f.new)) e usage))))
    gone u (p, of, inr (inr retires)) =
        let same : o ≡ p = cc in
        let of_o : IsOwnedBy plan (name_of u) o = subst (IsOwnedBy plan (name_of u)) (sym same) of in
        (λ h. absurd (h.1 u ((O.shared_going_same o).back u (sound.held o u h.0 of_o o_shared).0) refl), λ h. absurd (known.1 (shared_of plan T f fits u o of_o o_shared h).0))

    retire_runs : Runs plan g' (StandsIn m) (take_all (shared_going o) [])
    retire_runs =
        take_runs plan T g' fits (shared_going o) (StandsIn m) []
        (λ t h. (inr (o, T.shared o t (of_going t h), refl), sound.whole f.key o t (leaver plan T m sound w f o x.leaving) still (of_going t h)))
        (O.shared_going_apart f.key known.0.row o known.0.used)
        (λ t u h concern v refers. O.shared_going_before o u t (its u (before_by t u h v refers concern.0 concern.1 concern.2)) (of_going t h) refers)
        gone

    pub leaves-last : LeavesLast plan m w f o (take_all (shared_going o) [])
    leaves-last = record {
      leaving = x.leaving;
      last = x.last;
      about = about;
      runs = retire_runs;
    }
      where
        about : (p : Owner) → HasChangeOf plan (take_all (shared_going o) []) p → p ≡ o
        about p t =
            let y = take_in (shared_going o) t.0 t.1 in
            one_owner plan (name_of y.0) p o (subst (λ z. IsOwnedBy plan (changed_name z) p) y.2 t.2) (T.shared o y.0 (of_going y.0 y.1))

    pub sound-retired : IsConsistent plan (left m w f (Some o) (take_all (shared_going o) []))
    sound-retired = sound-retiring plan T m sound w f o (take_all (shared_going o) []) leaves-last

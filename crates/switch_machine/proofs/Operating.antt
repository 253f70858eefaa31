-- the changes of an operation can be made one after the other
use Rattle.std.proofs.Common.{Bool, true, false, if◌then◌else◌, ◌≡◌, ◌⊎◌, ◌∷◌, ◌∙◌, inl, inr, List, [], None, Some, refl, sym, ap, subst}
use Rattle.table_schema.specs.Plan.{Ports}
use Rattle.sai_types.specs.declared.thing.Thing.{Thing}
use Rattle.sai_types.specs.Alike.{IsIn}
use Rattle.sai_types.specs.Names.{ThingName, Refers, name_of}
use Rattle.switch_model.specs.Placed.{Placed as Row}
use Rattle.row_layout.specs.Rows.{Owner, OfRow, own_things}
use Rattle.row_layout.specs.Shared.{shared_things, uses}
use Rattle.row_layout.specs.Operations.{Change, Set, going, make_all, same_thing, set_to, take_all, uses_of}
use Rattle.switch_machine.specs.Changes.{IsSettable, Resembles}
use Rattle.switch_machine.specs.Flights.{Concerns, Fits, MachineFlight, Goes, HasName, HasShared, IsConcern, IsFinal, IsOwnedBy, IsShared, Runs, own_of}
use Rattle.switch_machine.specs.Tables.{AreNamedApart, ComesBefore, Orders, IsNamed, TableLaws}
use Rattle.sai_types.proofs.Equal.{thing-exact}
use Rattle.switch_machine.proofs.Running.{no_retire, one_owner, own_row, row_keys, runs-same, settable_name, shared_of, shared_row}
use Rattle.switch_machine.proofs.Splits.{own_row_in, use_row_in}

before_in : (n : ThingName) (t : Thing) (ts : List Thing) → ComesBefore n t ts → IsIn t ts
before_in n t [] h = elim h [ ]
before_in n t (x ∷ xs) (inl h) = inr h.1
before_in n t (x ∷ xs) (inr h) = inr (before_in n t xs h)

-- a thing is not behind the first one, where that is it
pub not_first : (n : ThingName) (x : Thing) (xs : List Thing) → AreNamedApart (x ∷ xs) → ComesBefore n x (x ∷ xs) → ⊥
not_first n x xs apart (inl h) = apart.0 x h.1 refl
not_first n x xs apart (inr h) = apart.0 x (before_in n x xs h) refl

abbrev pub plus : (Thing → Type 0) → List Thing → Thing → Type 0
plus V ts u = V u ⊎ IsIn u ts

abbrev pub minus : (Thing → Type 0) → List Thing → Thing → Type 0
minus V ts u = V u × ((t : Thing) → IsIn t ts → name_of u ≡ name_of t → ⊥)

module _ (plan : Ports) (tables : TableLaws plan) (f : MachineFlight) (fit : (r : Row) → f.new ≡ Some r → Fits plan f.key r) where
  -- things are made
  pub make_runs : (ts : List Thing) (V : Thing → Type 0) (rest : List Change) → ((t : Thing) → IsIn t ts → IsFinal plan f t) → ((t u : Thing) → IsIn t ts → V u → name_of u ≡ name_of t → ⊥) → AreNamedApart ts → ((t : Thing) (n : ThingName) → IsIn t ts → Refers t n → IsConcern plan f n → HasName V n ⊎ ComesBefore n t ts) → ((t : Thing) → IsIn t ts → IsIn t (own_of plan f.key f.new) → HasShared plan f V) → Runs plan f (plus V ts) rest → Runs plan f V (make_all ts rest)
  make_runs [] V rest final fresh apart near whole runs = runs-same plan tables f fit (plus V []) V rest (record { into = λ u c h. out u h; back = λ u c h. inl h }) runs
    where
      out : (u : Thing) → plus V [] u → V u
      out u (inl h) = h
      out u (inr h) = elim h [ ]
  make_runs (x ∷ xs) V rest final fresh apart near whole runs = (
    record {
      final = final x (inl refl);
      fresh = λ u h e. fresh x u (inl refl) h e;
      near = λ n refers concern. there n (near x n (inl refl) refers concern);
      whole = λ own. whole x (inl refl) own;
    },
    make_runs xs later rest
        (λ t h. final t (inr h))
        (λ t u h v e. still t u h v e)
        apart.1
        (λ t n h refers concern. nearer t n h (near t n (inr h) refers concern))
        (λ t h own o y usage in_it. inl (whole t (inr h) own o y usage in_it))
        (runs-same plan tables f fit (plus V (x ∷ xs)) (plus later xs) rest (record { into = λ u c h. regroup u h; back = λ u c h. regroup_back u h }) runs),
  )
    where
      later : Thing → Type 0
      later u = V u ⊎ (u ≡ x)

      there : (n : ThingName) → HasName V n ⊎ ComesBefore n x (x ∷ xs) → HasName V n
      there n (inl h) = h
      there n (inr h) = absurd (not_first n x xs apart h)

      still : (t u : Thing) → IsIn t xs → V u ⊎ (u ≡ x) → name_of u ≡ name_of t → ⊥
      still t u h (inl v) e = fresh t u (inr h) v e
      still t u h (inr is) e = apart.0 t h (sym e ∙ ap name_of is)

      nearer : (t : Thing) (n : ThingName) → IsIn t xs → HasName V n ⊎ ComesBefore n t (x ∷ xs) → HasName (λ u. V u ⊎ (u ≡ x)) n ⊎ ComesBefore n t xs
      nearer t n h (inl y) = inl (y.0, inl y.1, y.2)
      nearer t n h (inr (inl y)) = inl (x, inr refl, y.0)
      nearer t n h (inr (inr y)) = inr y

      regroup : (u : Thing) → V u ⊎ IsIn u (x ∷ xs) → (V u ⊎ (u ≡ x)) ⊎ IsIn u xs
      regroup u (inl v) = inl (inl v)
      regroup u (inr (inl e)) = inl (inr e)
      regroup u (inr (inr h)) = inr h

      regroup_back : (u : Thing) → (V u ⊎ (u ≡ x)) ⊎ IsIn u xs → V u ⊎ IsIn u (x ∷ xs)
      regroup_back u (inl (inl v)) = inl v
      regroup_back u (inl (inr e)) = inr (inl e)
      regroup_back u (inr h) = inr (inr h)

  -- things go
  pub take_runs : (ts : List Thing) (V : Thing → Type 0) (rest : List Change) → ((t : Thing) → IsIn t ts → Goes plan f (name_of t) × V t) → AreNamedApart ts → ((t u : Thing) → IsIn t ts → IsConcern plan f (name_of u) → V u → Refers u (name_of t) → ComesBefore (name_of u) t ts) → Runs plan f (minus V ts) rest → Runs plan f V (take_all ts rest)
  take_runs [] V rest goes apart before runs = runs-same plan tables f fit (minus V []) V rest (record { into = λ u c h. h.0; back = λ u c h. (h, λ t in_it e. elim in_it [ ]) }) runs
  take_runs (x ∷ xs) V rest goes apart before runs = (
    record {
      goes = (goes x (inl refl)).0;
      there = (x, (goes x (inl refl)).1, refl);
      unused = λ u c h refers. not_first (name_of u) x xs apart (before x u (inl refl) c h refers);
    },
    take_runs xs later rest
        (λ t h. ((goes t (inr h)).0, ((goes t (inr h)).1, apart.0 t h)))
        apart.1
        (λ t u h c v refers. behind t u v (before t u (inr h) c v.0 refers))
        (runs-same plan tables f fit (minus V (x ∷ xs)) (minus later xs) rest (record { into = λ u c h. ((h.0, h.1 x (inl refl)), λ t in_it e. h.1 t (inr in_it) e); back = λ u c h. (h.0.0, λ t in_it e. none u h t in_it e) }) runs),
  )
    where
      later : Thing → Type 0
      later u = V u × (name_of u ≡ name_of x → ⊥)

      behind : (t u : Thing) → V u × (name_of u ≡ name_of x → ⊥) → ComesBefore (name_of u) t (x ∷ xs) → ComesBefore (name_of u) t xs
      behind t u v (inl h) = absurd (v.1 (sym h.0))
      behind t u v (inr h) = h

      none : (u : Thing) → minus (λ u. V u × (name_of u ≡ name_of x → ⊥)) xs u → (t : Thing) → IsIn t (x ∷ xs) → name_of u ≡ name_of t → ⊥
      none u h t (inl is) e = h.0.1 (e ∙ ap name_of is)
      none u h t (inr in_it) e = h.1 t in_it e

  -- ---- what stands of an operation's owners

  pub record Ready (ts : List Thing) (V : Thing → Type 0) : Type 0 where
    pub own : (u : Thing) → IsOwnedBy plan (name_of u) (OfRow f.key) → (V u → IsIn u ts) × (IsIn u ts → V u)
    pub shared : (o : Owner) (u : Thing) → IsIn o (uses_of plan f.key f.new) → IsOwnedBy plan (name_of u) o → (V u → IsIn u (shared_things o)) × (IsIn u (shared_things o) → V u)

  module _ (orders : Orders plan) (none : f.retires ≡ None) where
    use_shared : (o : Owner) → IsIn o (uses_of plan f.key f.new) → IsShared o
    use_shared o h = let r = use_row_in plan f.key f.new o h in tables.are_shared f.key r.0 o r.2

    -- in the end all is there
    pub finish : (V : Thing → Type 0) → Ready (own_of plan f.key f.new) V → Runs plan f V []
    finish V ready u (o, of, inl is) =
        let own = ready.own u (of ∙ ap Some is) in
        (λ h. inl (own.0 h), λ h. own.1 (let r = own_row plan tables f fit u f.key (of ∙ ap Some is) h in subst (λ z. IsIn u (own_of plan f.key z)) (sym r.1) (subst (λ k. IsIn u (own_things plan k r.0)) (sym r.2) r.3)))
    finish V ready u (o, of, inr (inl usage)) =
        let both = ready.shared o u usage of in
        (λ h. inr (o, usage, both.0 h), λ h. both.1 (shared_of plan tables f fit u o of (use_shared o usage) h).1)
    finish V ready u (o, of, inr (inr retires)) = absurd (no_retire f.retires o none retires)

    -- what a thing of the new row refers to is there, or comes before it
    pub near_own : (r : Row) → f.new ≡ Some r → (V : Thing → Type 0) → ((o : Owner) (u : Thing) → IsIn o (uses_of plan f.key f.new) → IsIn u (shared_things o) → V u) → (t : Thing) (n : ThingName) → IsIn t (own_things plan f.key r) → Refers t n → IsConcern plan f n → HasName V n ⊎ ComesBefore n t (own_things plan f.key r)
    near_own r new V shared t n h refers (o, of, inl is) = inr (orders.own_before f.key r t n (fit r new) h refers (of ∙ ap Some is))
    near_own r new V shared t n h refers (o, of, inr (inr retires)) = absurd (no_retire f.retires o none retires)
    near_own r new V shared t n h refers (o, of, inr (inl usage)) =
        let has = orders.shared_has f.key r t n o (fit r new) h refers (subst (λ z. IsIn o (uses_of plan f.key z)) new usage) of in
        inl (has.0, shared o has.0 usage has.1, has.2)

    -- ---- the own part

    pub added : (r : Row) → f.new ≡ Some r → (V : Thing → Type 0) → Ready [] V → Runs plan f V (make_all (own_things plan f.key r) [])
    added r new V ready =
        make_runs (own_things plan f.key r) V []
        (λ t h. inl (final t h))
        (λ t u h v e. elim ((ready.own u (subst (λ n. IsOwnedBy plan n (OfRow f.key)) (sym e) (tables.own f.key r t (fit r new) h))).0 v) [ ])
        (orders.own_apart f.key r (fit r new))
        (λ t n h refers concern. near_own r new V (λ o u usage in_it. (ready.shared o u usage (tables.shared o u in_it)).1 in_it) t n h refers concern)
        (λ t h own o u usage in_it. (ready.shared o u usage (tables.shared o u in_it)).1 in_it)
        (finish (plus V (own_things plan f.key r)) (record {
          own = λ u is. (λ h. mine u is h, λ h. inr (subst (λ z. IsIn u (own_of plan f.key z)) new h));
          shared = λ o u usage is. (λ h. theirs o u usage is h, λ h. inl ((ready.shared o u usage is).1 h));
        }))
      where
        final : (t : Thing) → IsIn t (own_things plan f.key r) → IsIn t (own_of plan f.key f.new)
        final t h = subst (λ z. IsIn t (own_of plan f.key z)) (sym new) h

        mine : (u : Thing) → IsOwnedBy plan (name_of u) (OfRow f.key) → V u ⊎ IsIn u (own_things plan f.key r) → IsIn u (own_of plan f.key f.new)
        mine u is (inl v) = elim ((ready.own u is).0 v) [ ]
        mine u is (inr h) = final u h

        theirs : (o : Owner) (u : Thing) → IsIn o (uses_of plan f.key f.new) → IsOwnedBy plan (name_of u) o → V u ⊎ IsIn u (own_things plan f.key r) → IsIn u (shared_things o)
        theirs o u usage is (inl v) = (ready.shared o u usage is).0 v
        theirs o u usage is (inr h) = absurd (shared_row o f.key (use_shared o usage) (one_owner plan (name_of u) o (OfRow f.key) is (tables.own f.key r u (fit r new) h)))

    no_use : (o : Owner) → f.new ≡ None → IsIn o (uses_of plan f.key f.new) → ⊥
    no_use o gone usage = elim (subst (λ z. IsIn o (uses_of plan f.key z)) gone usage) [ ]

    -- the applied row's things go, and then the rest is done: the new row shares nothing
    pub taken : (a : Row) (rest : List Change) → Fits plan f.key a → f.goes ≡ true → ((o : Owner) → IsIn o (uses_of plan f.key f.new) → ⊥) → (V : Thing → Type 0) → Ready (own_things plan f.key a) V → ((W : Thing → Type 0) → Ready [] W → Runs plan f W rest) → Runs plan f V (take_all (going plan f.key a) rest)
    taken a rest fits goes alone V ready next =
        take_runs (going plan f.key a) V rest
        (λ t h. (inl (of t (into t h), goes), (ready.own t (of t (into t h))).1 (into t h)))
        (orders.going_apart f.key a fits)
        (λ t u h concern v refers. orders.going_before f.key a u t fits (mine u v concern) (into t h) refers)
        (next (minus V (going plan f.key a)) (record {
          own = λ u is. (λ h. absurd (h.1 u ((orders.going_same f.key a).back u ((ready.own u is).0 h.0)) refl), λ h. elim h [ ]);
          shared = λ o u usage is. absurd (alone o usage);
        }))
      where
        into : (t : Thing) → IsIn t (going plan f.key a) → IsIn t (own_things plan f.key a)
        into t h = (orders.going_same f.key a).into t h

        of : (t : Thing) → IsIn t (own_things plan f.key a) → IsOwnedBy plan (name_of t) (OfRow f.key)
        of t h = tables.own f.key a t fits h

        mine : (u : Thing) → V u → IsConcern plan f (name_of u) → IsIn u (own_things plan f.key a)
        mine u v (o, of, inl is) = (ready.own u (of ∙ ap Some is)).0 v
        mine u v (o, of, inr (inl usage)) = absurd (alone o usage)
        mine u v (o, of, inr (inr retires)) = absurd (no_retire f.retires o none retires)

    pub removed : (a : Row) → Fits plan f.key a → f.goes ≡ true → f.new ≡ None → (V : Thing → Type 0) → Ready (own_things plan f.key a) V → Runs plan f V (take_all (going plan f.key a) [])
    removed a fits goes gone V ready = taken a [] fits goes (λ o usage. no_use o gone usage) V ready (λ W now. finish W (subst (λ z. Ready (own_of plan f.key z) W) (sym gone) now))

    step_by : (b : Bool) (t u : Thing) (ts : List Thing) (rest : List Change) (V : Thing → Type 0) → same_thing t u ≡ b → Ready (t ∷ ts) V → IsOwnedBy plan (name_of u) (OfRow f.key) → IsSettable t u → ((x : Thing) → IsIn x ts → name_of x ≡ name_of u → ⊥) → (like : Thing) → IsIn like (own_of plan f.key f.new) → Resembles u like → ((W : Thing → Type 0) → ((o : Owner) (x : Thing) → IsIn o (uses_of plan f.key f.new) → IsIn x (shared_things o) → W x) → (n : ThingName) → Refers u n → IsConcern plan f n → HasName W n) → ((W : Thing → Type 0) → Ready (u ∷ ts) W → Runs plan f W rest) → Runs plan f V (if b then rest else Set u ∷ rest)
    step_by true t u ts rest V x ready of settable apart like final resembles near next =
        next V (subst (λ z. Ready (z ∷ ts) V) (thing-exact t u x) ready)
    step_by false t u ts rest V x ready of settable apart like final resembles near next = (
      record {
        own = of;
        old = t;
        stands = (ready.own t (subst (λ n. IsOwnedBy plan n (OfRow f.key)) same of)).1 (inl refl);
        settable = settable;
        like = like;
        final = final;
        resembles = resembles;
        near = near V (λ o x usage h. (ready.shared o x usage (tables.shared o x h)).1 h);
        whole = λ o x usage h. (ready.shared o x usage (tables.shared o x h)).1 h;
      },
      next later (record {
        own = λ x is. (λ h. mine x is h, λ h. back x is h);
        shared = λ o x usage is. (λ h. theirs o x usage is h, λ h. inl ((ready.shared o x usage is).1 h, λ e. shared_row o f.key (use_shared o usage) (one_owner plan (name_of x) o (OfRow f.key) is (subst (λ n. IsOwnedBy plan n (OfRow f.key)) (sym e) of))));
      }),
    )
      where
        same : name_of u ≡ name_of t
        same = settable_name t u settable

        later : Thing → Type 0
        later x = (V x × (name_of x ≡ name_of u → ⊥)) ⊎ (x ≡ u)

        mine_in : (x : Thing) → (name_of x ≡ name_of u → ⊥) → IsIn x (t ∷ ts) → IsIn x (u ∷ ts)
        mine_in x other (inl is) = absurd (other (ap name_of is ∙ sym (settable_name t u settable)))
        mine_in x other (inr h) = inr h

        mine : (x : Thing) → IsOwnedBy plan (name_of x) (OfRow f.key) → (V x × (name_of x ≡ name_of u → ⊥)) ⊎ (x ≡ u) → IsIn x (u ∷ ts)
        mine x is (inl h) = mine_in x h.1 ((ready.own x is).0 h.0)
        mine x is (inr e) = inl e

        back : (x : Thing) → IsOwnedBy plan (name_of x) (OfRow f.key) → IsIn x (u ∷ ts) → (V x × (name_of x ≡ name_of u → ⊥)) ⊎ (x ≡ u)
        back x is (inl e) = inr e
        back x is (inr h) = inl ((ready.own x is).1 (inr h), apart x h)

        theirs : (o : Owner) (x : Thing) → IsIn o (uses_of plan f.key f.new) → IsOwnedBy plan (name_of x) o → (V x × (name_of x ≡ name_of u → ⊥)) ⊎ (x ≡ u) → IsIn x (shared_things o)
        theirs o x usage is (inl h) = (ready.shared o x usage is).0 h.0
        theirs o x usage is (inr e) = absurd (shared_row o f.key (use_shared o usage) (one_owner plan (name_of x) o (OfRow f.key) is (subst (λ z. IsOwnedBy plan (name_of z) (OfRow f.key)) (sym e) of)))

    -- one value is set, where it differs
    pub step : (t u : Thing) (ts : List Thing) (rest : List Change) (V : Thing → Type 0) → Ready (t ∷ ts) V → IsOwnedBy plan (name_of u) (OfRow f.key) → IsSettable t u → ((x : Thing) → IsIn x ts → name_of x ≡ name_of u → ⊥) → (like : Thing) → IsIn like (own_of plan f.key f.new) → Resembles u like → ((W : Thing → Type 0) → ((o : Owner) (x : Thing) → IsIn o (uses_of plan f.key f.new) → IsIn x (shared_things o) → W x) → (n : ThingName) → Refers u n → IsConcern plan f n → HasName W n) → ((W : Thing → Type 0) → Ready (u ∷ ts) W → Runs plan f W rest) → Runs plan f V (set_to t u rest)
    step t u ts rest V ready of settable apart like final resembles near next = step_by (same_thing t u) t u ts rest V refl ready of settable apart like final resembles near next

    -- ---- what is shared is built first

    pub built : (o : Owner) (own : List Change) (ts : List Thing) (V : Thing → Type 0) → IsIn o (uses_of plan f.key f.new) → ((u : Thing) → IsOwnedBy plan (name_of u) o → V u → ⊥) → ((u : Thing) → IsOwnedBy plan (name_of u) (OfRow f.key) → (V u → IsIn u ts) × (IsIn u ts → V u)) → ((W : Thing → Type 0) → Ready ts W → Runs plan f W own) → Runs plan f V (make_all (shared_things o) own)
    built o own ts V usage absent mine next =
        let r = use_row_in plan f.key f.new o usage in
        make_runs (shared_things o) V own
        (λ t h. inr (o, usage, h))
        (λ t u h v e. absent u (subst (λ n. IsOwnedBy plan n o) (sym e) (tables.shared o t h)) v)
        (orders.shared_apart f.key r.0 o r.2)
        (λ t n h refers concern. near r.0 r.1 r.2 t n h refers concern)
        (λ t h own p u pusage in_it. absurd (not_own t h own))
        (next (plus V (shared_things o)) (record {
          own = λ u is. (λ h. own_in u is h, λ h. inl ((mine u is).1 h));
          shared = λ p u pusage is. shared_in r.0 r.1 r.2 p u pusage is;
        }))
      where
        not_own : (t : Thing) → IsIn t (shared_things o) → IsIn t (own_of plan f.key f.new) → ⊥
        not_own t h own =
            let r = own_row_in plan f.key f.new t own in
            shared_row o f.key (use_shared o usage) (one_owner plan (name_of t) o (OfRow f.key) (tables.shared o t h) (tables.own f.key r.0 t (fit r.0 r.1) r.2))

        near : (r : Row) → f.new ≡ Some r → IsIn o (uses plan f.key r) → (t : Thing) (n : ThingName) → IsIn t (shared_things o) → Refers t n → IsConcern plan f n → HasName V n ⊎ ComesBefore n t (shared_things o)
        near r new at t n h refers (p, of, c) = by (tables.shared_refers f.key r o t n (fit r new) at h refers) c
          where
            by : IsNamed plan f.key r n ⊎ IsOwnedBy plan n o → Concerns plan f p → HasName V n ⊎ ComesBefore n t (shared_things o)
            by (inr is) c = inr (orders.shared_before f.key r o t n (fit r new) at h refers is)
            by (inl named) (inl is) = absurd (orders.no_self f.key named.by r named.named (row_keys named.by f.key (one_owner plan n (OfRow named.by) (OfRow f.key) (tables.names_own named.by n named.own) (of ∙ ap Some is))))
            by (inl named) (inr (inl pusage)) = absurd (shared_row p named.by (use_shared p pusage) (one_owner plan n p (OfRow named.by) of (tables.names_own named.by n named.own)))
            by (inl named) (inr (inr retires)) = absurd (no_retire f.retires p none retires)

        own_in : (u : Thing) → IsOwnedBy plan (name_of u) (OfRow f.key) → V u ⊎ IsIn u (shared_things o) → IsIn u ts
        own_in u is (inl v) = (mine u is).0 v
        own_in u is (inr h) = absurd (shared_row o f.key (use_shared o usage) (one_owner plan (name_of u) o (OfRow f.key) (tables.shared o u h) is))

        shared_in : (r : Row) → f.new ≡ Some r → IsIn o (uses plan f.key r) → (p : Owner) (u : Thing) → IsIn p (uses_of plan f.key f.new) → IsOwnedBy plan (name_of u) p → (V u ⊎ IsIn u (shared_things o) → IsIn u (shared_things p)) × (IsIn u (shared_things p) → V u ⊎ IsIn u (shared_things o))
        shared_in r new at p u pusage is =
            let same : o ≡ p = orders.one_use f.key r o p at (subst (λ z. IsIn p (uses_of plan f.key z)) new pusage) in
            (λ h. subst (λ z. IsIn u (shared_things z)) same (there (subst (IsOwnedBy plan (name_of u)) (sym same) is) h), λ h. inr (subst (λ z. IsIn u (shared_things z)) (sym same) h))
          where
            there : IsOwnedBy plan (name_of u) o → V u ⊎ IsIn u (shared_things o) → IsIn u (shared_things o)
            there is (inl v) = absurd (absent u is v)
            there is (inr h) = h

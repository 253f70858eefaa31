-- the machine stays sound where a change that is due takes effect
use Rattle.std.proofs.Common.{◌≡◌, ◌⊎◌, ◌∷◌, ◌∙◌, inl, inr, ℕ, List, Some, refl, sym, ap, subst}
use Rattle.std.proofs.lemmas.Option.{same_Some}
use Rattle.table_schema.specs.Plan.{Ports}
use Rattle.table_schema.specs.declared.key.Key.{Key}
use Rattle.sai_types.specs.declared.ids.Rid.{Rid}
use Rattle.sai_types.specs.declared.thing.Thing.{Thing}
use Rattle.sai_types.specs.Alike.{IsIn}
use Rattle.sai_types.specs.Names.{ThingName, Refers, name_of}
use Rattle.switch_model.specs.Placed.{Placed as Row}
use Rattle.row_layout.specs.Rows.{Owner, OfRow, own_things}
use Rattle.row_layout.specs.Shared.{shared_things, uses}
use Rattle.row_layout.specs.Operations.{Change, Make, Set, Take, uses_of}
use Rattle.switch_machine.specs.Changes.{after, changed_name}
use Rattle.switch_machine.specs.Flights.{Can, CanMake, CanSet, Concerns, Fits, MachineFlight, Goes, HasName, IsConcern, IsFirm, IsOwnedBy, IsResting, IsShared, HasChangeOf, IsUser, Machine, Runs, StandsIn, own_of}
use Rattle.switch_machine.specs.Steps.{Moves, moved}
use Rattle.switch_machine.specs.Consistent.{IsUsedOrRetired, IsLike, IsConsistent}
use Rattle.switch_machine.specs.Tables.{IsNamed, TableLaws}
use Rattle.switch_machine.proofs.Running.{Agree, final-concern, one_owner, own_row, resembles_self, row_keys, runs-same, shared_of, shared_row, stays, stood, untouched}
use Rattle.switch_machine.proofs.Splits.{IsSplit, name_split, nat_split, owner_split, put_at, put_off, own_row_in, use_row_in}

module _ (plan : Ports) (tables : TableLaws plan) (m : Machine) (sound : IsConsistent plan m) where
  pub fit_of : (w : ℕ) (f : MachineFlight) → m.board.flights w ≡ Some f → (r : Row) → f.new ≡ Some r → Fits plan f.key r
  fit_of w f at r is = sound.board.fit f.key r (inr (w, f, at, refl, is))

  pub used_shared : (k : Key) (o : Owner) → IsUser plan m.board k o → IsShared o
  used_shared k o (inl (w, f, at, is, inl h)) = let r = use_row_in plan f.key f.new o h in tables.are_shared f.key r.0 o r.2
  used_shared k o (inl (w, f, at, is, inr h)) = let was = (sound.board.leaves w f o at h).0 in tables.are_shared f.key was.row o was.used
  used_shared k o (inr (rests, h)) = let r = use_row_in plan k (m.board.applied k) o h in tables.are_shared k r.0 o r.2

  -- what one operation changes is no concern of another
  pub apart : (w v : ℕ) (f g : MachineFlight) → m.board.flights w ≡ Some f → m.board.flights v ≡ Some g → (v ≡ w → ⊥) → (o : Owner) → HasChangeOf plan (m.due w) o → Concerns plan f o → Concerns plan g o → ⊥
  apart w v f g at there other o touched mine (inr (inl h)) = other (sym (sound.board.one w v f g at there (sym (sound.quiet w f g.key o at touched (inl (v, g, there, refl, inl h))))))
  apart w v f g at there other o touched (inl is) (inl h) = other (sym (sound.board.one w v f g at there (row_keys f.key g.key (sym is ∙ h))))
  apart w v f g at there other o touched (inr (inl mine)) (inl h) = shared_row o g.key (used_shared f.key o (inl (w, f, at, refl, inl mine))) h
  apart w v f g at there other o touched (inr (inr mine)) (inl h) = let was = sound.board.left w f o at mine in shared_row o g.key (tables.are_shared f.key was.row o was.used) h
  apart w v f g at there other o touched (inl is) (inr (inr h)) = let was = sound.board.left v g o there h in shared_row o f.key (tables.are_shared g.key was.row o was.used) is
  apart w v f g at there other o touched (inr (inl mine)) (inr (inr h)) = sound.board.unused v g f.key o there h (inl (w, f, at, refl, inl mine))
  apart w v f g at there other o touched (inr (inr mine)) (inr (inr h)) = other (sym (sound.board.once w v f g o at there mine h))

  module _ (w : ℕ) (f : MachineFlight) (c : Change) (cs : List Change) (stands : List (Rid × Thing)) (moves : Moves m w f c cs stands) where
    abbrev later : Machine
    later = moved m w cs stands

    fits : (r : Row) → f.new ≡ Some r → Fits plan f.key r
    fits = fit_of w f moves.flying

    pub runs_now : Runs plan f (StandsIn m) (c ∷ cs)
    runs_now = subst (Runs plan f (StandsIn m)) moves.due (sound.runs w f moves.flying)

    goes_owner : (n : ThingName) → Goes plan f n → (o : Owner) × IsOwnedBy plan n o × Concerns plan f o
    goes_owner n (inl h) = (OfRow f.key, h.0, inl refl)
    goes_owner n (inr h) = (h.0, h.1, inr (inr h.2))

    -- the owner of what changes
    concern_of : (c : Change) → Can plan f (StandsIn m) c → (o : Owner) × IsOwnedBy plan (changed_name c) o × Concerns plan f o
    concern_of (Make t) can = final-concern plan tables f fits t can.final
    concern_of (Set t) can = (OfRow f.key, can.own, inl refl)
    concern_of (Take n) can = goes_owner n can.goes

    pub its : (o : Owner) × IsOwnedBy plan (changed_name c) o × Concerns plan f o
    its = concern_of c runs_now.0

    touches : HasChangeOf plan (m.due w) its.0
    touches = subst (λ d. HasChangeOf plan d its.0) (sym moves.due) (c, inl refl, its.1)

    -- things of other owners stay as they are
    other_name : (u : Thing) (o : Owner) → IsOwnedBy plan (name_of u) o → (o ≡ its.0 → ⊥) → name_of u ≡ changed_name c → ⊥
    other_name u o is apart e = apart (one_owner plan (changed_name c) o its.0 (subst (λ n. IsOwnedBy plan n o) e is) its.1)

    kept : (u : Thing) (o : Owner) → IsOwnedBy plan (name_of u) o → (o ≡ its.0 → ⊥) → StandsIn m u → StandsIn later u
    kept u o is apart h = moves.back u (stays c (StandsIn m u) u (other_name u o is apart) h)

    before : (u : Thing) (o : Owner) → IsOwnedBy plan (name_of u) o → (o ≡ its.0 → ⊥) → StandsIn later u → StandsIn m u
    before u o is apart h = stood c (StandsIn m u) u (other_name u o is apart) (moves.into u h.0 h.1)

    -- what stands later stood before, or was made or set
    data Came (u : Thing) : Type 0 where
      Stood : StandsIn m u → Came u
      Made : CanMake plan f (StandsIn m) u → Came u
      Was : CanSet plan f (StandsIn m) u → Came u

    came_by : (c : Change) → Can plan f (StandsIn m) c → (u : Thing) → after c (StandsIn m u) u → Came u
    came_by (Make t) can u (inl h) = Stood h
    came_by (Make t) can u (inr is) = Made (subst (CanMake plan f (StandsIn m)) (sym is) can)
    came_by (Set t) can u (inl h) = Stood h.0
    came_by (Set t) can u (inr is) = Was (subst (CanSet plan f (StandsIn m)) (sym is) can)
    came_by (Take n) can u h = Stood h.0

    came : (u : Thing) → StandsIn later u → Came u
    came u h = came_by c runs_now.0 u (moves.into u h.0 h.1)

    -- ---- the fields

    owned_by : (u : Thing) → Came u → (o : Owner) × IsOwnedBy plan (name_of u) o
    owned_by u (Stood h) = sound.owned u h
    owned_by u (Made can) = let x = final-concern plan tables f fits u can.final in (x.0, x.1)
    owned_by u (Was can) = (OfRow f.key, can.own)

    rest_apart : (k : Key) → IsResting m.board k → OfRow k ≡ its.0 → ⊥
    rest_apart k rests e = by its.2
      where
        by : Concerns plan f its.0 → ⊥
        by (inl is) = rests w f moves.flying (row_keys f.key k (sym is ∙ sym e))
        by (inr (inl h)) = let r = use_row_in plan f.key f.new its.0 h in shared_row its.0 k (tables.are_shared f.key r.0 its.0 r.2) (sym e)
        by (inr (inr h)) = let was = sound.board.left w f its.0 moves.flying h in shared_row its.0 k (tables.are_shared f.key was.row its.0 was.used) (sym e)

    agree_self : Agree (λ u. after c (StandsIn m u) u) (StandsIn later) (λ u. IsConcern plan f (name_of u))
    agree_self = record { into = λ u concern h. moves.back u h; back = λ u concern h. moves.into u h.0 h.1 }

    agree_other : (v : ℕ) (g : MachineFlight) → m.board.flights v ≡ Some g → (v ≡ w → ⊥) → Agree (StandsIn m) (StandsIn later) (λ u. IsConcern plan g (name_of u))
    agree_other v g there other = record {
      into = λ u concern h. kept u concern.0 concern.1 (λ e. not_mine concern.0 concern.2 e) h;
      back = λ u concern h. before u concern.0 concern.1 (λ e. not_mine concern.0 concern.2 e) h;
    }
      where
        not_mine : (o : Owner) → Concerns plan g o → o ≡ its.0 → ⊥
        not_mine o h e = apart w v f g moves.flying there other its.0 touches its.2 (subst (Concerns plan g) e h)

    runs_by : (v : ℕ) (g : MachineFlight) → m.board.flights v ≡ Some g → IsSplit v w → Runs plan g (StandsIn later) (later.due v)
    runs_by v g there (inl same) =
        let is : f ≡ g = same_Some f g (sym moves.flying ∙ ap m.board.flights (sym same) ∙ there) in
        let now = runs-same plan tables f fits (λ u. after c (StandsIn m u) u) (StandsIn later) cs agree_self runs_now.1 in
        subst (Runs plan g (StandsIn later)) (sym (put_at w v cs m.due same)) (subst (λ h. Runs plan h (StandsIn later) cs) is now)
    runs_by v g there (inr other) =
        subst (Runs plan g (StandsIn later)) (sym (put_off w v cs m.due other))
        (runs-same plan tables g (fit_of v g there) (StandsIn m) (StandsIn later) (m.due v) (agree_other v g there other) (sound.runs v g there))

    -- what is firm is not taken
    firm_stays : (k : Key) (n : ThingName) → IsFirm m.board k → IsOwnedBy plan n (OfRow k) → Goes plan f n → ⊥
    firm_stays k n firm is (inl h) = firm.stays w f moves.flying (row_keys f.key k (one_owner plan n (OfRow f.key) (OfRow k) h.0 is)) h.1
    firm_stays k n firm is (inr h) = let was = sound.board.left w f h.0 moves.flying h.2 in shared_row h.0 k (tables.are_shared f.key was.row h.0 was.used) (one_owner plan n h.0 (OfRow k) h.1 is)

    present_by : (c : Change) → Can plan f (StandsIn m) c → ((u : Thing) → after c (StandsIn m u) u → StandsIn later u) → (k : Key) (n : ThingName) → IsFirm m.board k → IsOwnedBy plan n (OfRow k) → IsSplit n (changed_name c) → HasName (StandsIn m) n → HasName (StandsIn later) n
    present_by (Make t) can back k n firm is split x = (x.0, back x.0 (inl x.1), x.2)
    present_by (Set t) can back k n firm is (inl same) x = (t, back t (inr refl), sym same)
    present_by (Set t) can back k n firm is (inr other) x = (x.0, back x.0 (inl (x.1, λ e. other (sym x.2 ∙ e))), x.2)
    present_by (Take l) can back k n firm is (inl same) x = absurd (firm_stays k l firm (subst (λ z. IsOwnedBy plan z (OfRow k)) same is) can.goes)
    present_by (Take l) can back k n firm is (inr other) x = (x.0, back x.0 (x.1, λ e. other (sym x.2 ∙ e)), x.2)

    like_by : (k : Key) (u : Thing) → Came u → IsOwnedBy plan (name_of u) (OfRow k) → IsLike plan m.board k u
    like_by k u (Stood h) is = sound.like k u h is
    like_by k u (Made can) is =
        let r = own_row plan tables f fits u k is can.final in
        record { row = r.0; is = inr (w, f, moves.flying, r.2, r.1); thing = u; of = r.3; resembles = resembles_self u }
    like_by k u (Was can) is =
        let r = own_row_in plan f.key f.new can.like can.final in
        let same = row_keys f.key k (one_owner plan (name_of u) (OfRow f.key) (OfRow k) can.own is) in
        record { row = r.0; is = inr (w, f, moves.flying, same, r.1); thing = can.like; of = subst (λ q. IsIn can.like (own_things plan q r.0)) same r.2; resembles = can.resembles }

    held_by : (o : Owner) (u : Thing) → Came u → IsOwnedBy plan (name_of u) o → IsShared o → IsIn u (shared_things o) × IsUsedOrRetired plan m.board o
    held_by o u (Stood h) is shared = sound.held o u h is shared
    held_by o u (Made can) is shared =
        let both = shared_of plan tables f fits u o is shared can.final in
        (both.1, inl (f.key, inl (w, f, moves.flying, refl, inl both.0)))
    held_by o u (Was can) is shared = absurd (shared_row o f.key shared (one_owner plan (name_of u) o (OfRow f.key) is can.own))

    -- a thing like one of the new row that refers to what is shared
    used_new : (k : Key) (o : Owner) (t : Thing) (n : ThingName) (r : Row) → f.new ≡ Some r → f.key ≡ k → IsIn t (own_things plan k r) → Refers t n → IsOwnedBy plan n o → IsShared o → IsUser plan m.board k o
    used_new k o t n r is same h refers of shared = by (tables.own_refers k r t n (subst (λ q. Fits plan q r) same (fits r is)) h refers)
      where
        by : IsNamed plan k r n ⊎ (IsOwnedBy plan n (OfRow k) ⊎ ((p : Owner) × IsOwnedBy plan n p × IsIn p (uses plan k r))) → IsUser plan m.board k o
        by (inl named) = absurd (shared_row o named.by shared (one_owner plan n o (OfRow named.by) of (tables.names_own named.by n named.own)))
        by (inr (inl own)) = absurd (shared_row o k shared (one_owner plan n o (OfRow k) of own))
        by (inr (inr x)) =
            let p : x.0 ≡ o = one_owner plan n x.0 o x.1 of in
            let at : IsIn o (uses_of plan f.key f.new) = subst (λ z. IsIn o (uses_of plan f.key z)) (sym is) (subst (λ q. IsIn o (uses plan q r)) (sym same) (subst (λ z. IsIn z (uses plan k r)) p x.2)) in
            inl (w, f, moves.flying, same, inl at)

    used_by : (k : Key) (o : Owner) (u : Thing) (n : ThingName) → Came u → IsOwnedBy plan (name_of u) (OfRow k) → Refers u n → IsOwnedBy plan n o → IsShared o → IsUser plan m.board k o
    used_by k o u n (Stood h) is refers of shared = sound.used k o u n h is refers of shared
    used_by k o u n (Made can) is refers of shared =
        let r = own_row plan tables f fits u k is can.final in used_new k o u n r.0 r.1 r.2 r.3 refers of shared
    used_by k o u n (Was can) is refers of shared =
        let r = own_row_in plan f.key f.new can.like can.final in
        let same = row_keys f.key k (one_owner plan (name_of u) (OfRow f.key) (OfRow k) can.own is) in
        used_new k o can.like n r.0 r.1 same (subst (λ q. IsIn can.like (own_things plan q r.0)) same r.2) (can.resembles.refers n refers) of shared

    -- what a change is due of stays, where it has a user
    stays_used : (c : Change) → Can plan f (StandsIn m) c → ((u : Thing) → after c (StandsIn m u) u → StandsIn later u) → (k : Key) (o : Owner) (x : Thing) → IsUser plan m.board k o → IsIn x (shared_things o) → StandsIn m x → StandsIn later x
    stays_used (Make t) can back k o x user h v = back x (inl v)
    stays_used (Set t) can back k o x user h v = back x (inl (v, λ e. shared_row o f.key (used_shared k o user) (one_owner plan (name_of x) o (OfRow f.key) (tables.shared o x h) (subst (λ n. IsOwnedBy plan n (OfRow f.key)) (sym e) can.own))))
    stays_used (Take n) can back k o x user h v = back x (v, λ e. goes can.goes (subst (λ n. IsOwnedBy plan n o) e (tables.shared o x h)))
      where
        goes : Goes plan f n → IsOwnedBy plan n o → ⊥
        goes (inl own) is = shared_row o f.key (used_shared k o user) (one_owner plan n o (OfRow f.key) is own.0)
        goes (inr y) is = sound.board.unused w f k o moves.flying (y.2 ∙ ap Some (one_owner plan n y.0 o y.1 is)) user

    steady_now : (k : Key) (o : Owner) (x : Thing) → IsUser plan m.board k o → IsIn x (shared_things o) → StandsIn m x → StandsIn later x
    steady_now k o x user h v = stays_used c runs_now.0 moves.back k o x user h v

    -- what a row's thing refers to of what it shares is of its new row
    used_mine : (t : Thing) (n : ThingName) (o : Owner) (r : Row) → f.new ≡ Some r → IsIn t (own_things plan f.key r) → Refers t n → IsOwnedBy plan n o → IsShared o → IsIn o (uses_of plan f.key f.new)
    used_mine t n o r is h refers of shared = by (tables.own_refers f.key r t n (fits r is) h refers)
      where
        by : IsNamed plan f.key r n ⊎ (IsOwnedBy plan n (OfRow f.key) ⊎ ((p : Owner) × IsOwnedBy plan n p × IsIn p (uses plan f.key r))) → IsIn o (uses_of plan f.key f.new)
        by (inl named) = absurd (shared_row o named.by shared (one_owner plan n o (OfRow named.by) of (tables.names_own named.by n named.own)))
        by (inr (inl own)) = absurd (shared_row o f.key shared (one_owner plan n o (OfRow f.key) of own))
        by (inr (inr y)) = subst (λ z. IsIn o (uses_of plan f.key z)) (sym is) (subst (λ z. IsIn z (uses plan f.key r)) (one_owner plan n y.0 o y.1 of) y.2)

    steady_by : (k : Key) (o : Owner) (u x : Thing) (n : ThingName) → Came u → IsOwnedBy plan (name_of u) (OfRow k) → Refers u n → IsOwnedBy plan n o → IsShared o → IsIn x (shared_things o) → IsUser plan m.board k o → StandsIn later x
    steady_by k o u x n (Stood h) is refers of shared in_it user = steady_now k o x user in_it (sound.steady k o u x n h is refers of shared in_it)
    steady_by k o u x n (Made can) is refers of shared in_it user =
        let r = own_row plan tables f fits u k is can.final in
        let mine : IsIn u (own_things plan f.key r.0) = subst (λ q. IsIn u (own_things plan q r.0)) (sym r.2) r.3 in
        steady_now k o x user in_it (can.whole (subst (λ z. IsIn u (own_of plan f.key z)) (sym r.1) mine) o x (used_mine u n o r.0 r.1 mine refers of shared) in_it)
    steady_by k o u x n (Was can) is refers of shared in_it user =
        let r = own_row_in plan f.key f.new can.like can.final in
        steady_now k o x user in_it (can.whole o x (used_mine can.like n o r.0 r.1 r.2 (can.resembles.refers n refers) of shared) in_it)

    touched_off : (v : ℕ) (o : Owner) → (o ≡ its.0 → ⊥) → IsSplit v w → HasChangeOf plan (m.due v) o → HasChangeOf plan (later.due v) o
    touched_off v o other (inr apart) t = subst (λ d. HasChangeOf plan d o) (sym (put_off w v cs m.due apart)) t
    touched_off v o other (inl same) t =
        let was : HasChangeOf plan (c ∷ cs) o = subst (λ d. HasChangeOf plan d o) (ap m.due same ∙ moves.due) t in
        subst (λ d. HasChangeOf plan d o) (sym (put_at w v cs m.due same)) (by was.0 was.1 was.2)
      where
        by : (d : Change) → IsIn d (c ∷ cs) → IsOwnedBy plan (changed_name d) o → HasChangeOf plan cs o
        by d (inl is) of = absurd (other (one_owner plan (changed_name c) o its.0 (subst (λ z. IsOwnedBy plan (changed_name z) o) is of) its.1))
        by d (inr h) of = (d, h, of)

    touched_was : (v : ℕ) (o : Owner) → IsSplit v w → HasChangeOf plan (later.due v) o → HasChangeOf plan (m.due v) o
    touched_was v o (inr apart) t = subst (λ d. HasChangeOf plan d o) (put_off w v cs m.due apart) t
    touched_was v o (inl same) t =
        let was : HasChangeOf plan cs o = subst (λ d. HasChangeOf plan d o) (put_at w v cs m.due same) t in
        subst (λ d. HasChangeOf plan d o) (sym (ap m.due same ∙ moves.due)) (was.0, inr was.1, was.2)

    whole_by : (k : Key) (o : Owner) (u : Thing) → IsUser plan m.board k o → ((v : ℕ) (g : MachineFlight) → m.board.flights v ≡ Some g → HasChangeOf plan (later.due v) o → ⊥) → IsIn u (shared_things o) → IsSplit o its.0 → StandsIn later u
    whole_by k o u user still h (inr other) =
        kept u o (tables.shared o u h) other (sound.whole k o u user (λ v g there t. still v g there (touched_off v o other (nat_split v w) t)) h)
    whole_by k o u user still h (inl same) = by (subst (Concerns plan f) (sym same) its.2)
      where
        by : Concerns plan f o → StandsIn later u
        by (inl is) = absurd (shared_row o f.key (used_shared k o user) is)
        by (inr (inr h)) = absurd (sound.board.unused w f k o moves.flying h user)
        by (inr (inl mine)) =
            let now = subst (Runs plan f (StandsIn later)) (put_at w w cs m.due refl) (runs_by w f moves.flying (inl refl)) in
            let none : HasChangeOf plan cs o → ⊥ = λ t. still w f moves.flying (subst (λ d. HasChangeOf plan d o) (sym (put_at w w cs m.due refl)) t) in
            (untouched plan tables f fits (StandsIn later) cs o (inr (inl mine)) none now u (tables.shared o u h)).1 (inr (o, mine, h))

    pub sound-moved : IsConsistent plan later
    sound-moved = record {
      board = sound.board;
      owned = λ u h. owned_by u (came u h);
      rest = λ k u rests is. (
        λ h. (sound.rest k u rests is).0 (before u (OfRow k) is (rest_apart k rests) h),
        λ h. kept u (OfRow k) is (rest_apart k rests) ((sound.rest k u rests is).1 h),
      );
      runs = λ v g there. runs_by v g there (nat_split v w);
      present = λ k n firm h. present_by c runs_now.0 moves.back k n firm (tables.names_own k n h) (name_split n (changed_name c)) (sound.present k n firm h);
      like = λ k u h is. like_by k u (came u h) is;
      held = λ o u h is shared. held_by o u (came u h) is shared;
      used = λ k o u n h is refers of shared. used_by k o u n (came u h) is refers of shared;
      steady = λ k o u x n h is refers of shared in_it. steady_by k o u x n (came u h) is refers of shared in_it (used_by k o u n (came u h) is refers of shared);
      whole = λ k o u user still h. whole_by k o u user still h (owner_split o its.0);
      quiet = λ v g k o there touched user. sound.quiet v g k o there (touched_was v o (nat_split v w) touched) user;
    }

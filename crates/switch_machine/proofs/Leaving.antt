-- the machine stays sound where a key leaves what it shared
use Rattle.std.proofs.Common.{◌≡◌, ◌⊎◌, ◌∷◌, ◌∙◌, inl, inr, ℕ, List, [], Option, None, Some, option_map, refl, sym, ap, subst, true}
use Rattle.std.proofs.lemmas.Option.{none-some, same_Some}
use Rattle.table_schema.specs.Plan.{Ports}
use Rattle.table_schema.specs.declared.key.Key.{Key}
use Rattle.table_schema.specs.declared.key.Key.TheVariants as key
use Rattle.sai_types.specs.declared.thing.Thing.{Thing}
use Rattle.sai_types.specs.Alike.{IsIn}
use Rattle.sai_types.specs.Names.{ThingName, Refers, name_of}
use Rattle.row_layout.specs.Rows.{Owner, OfRow}
use Rattle.row_layout.specs.Shared.{uses}
use Rattle.row_layout.specs.Operations.{Change, uses_of}
use Rattle.switch_machine.specs.Flights.{MachineBoard, CountsAsUser, Fits, MachineFlight, IsFirm, IsOwnedBy, IsResting, IsRow, IsShared, HasChangeOf, IsUser, Machine, Runs, StandsIn, goes_over}
use Rattle.switch_machine.specs.Steps.{Leaves, LeavesLast, LeavesOthers, left, parted}
use Rattle.switch_model.specs.Placed as row
use Rattle.switch_model.specs.Placed.{Placed as Row, bare}
use Rattle.switch_model.specs.Good.{TypedRows}
use Rattle.switch_machine.specs.Consistent.{IsCurrent, IsUsedOrRetired, IsOrderly, IsConsistent, WasUsed}
use Rattle.switch_machine.specs.Tables.{IsNamed, TableLaws}
use Rattle.switch_machine.proofs.Running.{one_owner, own_row, shared_row}
use Rattle.switch_machine.proofs.Moving.{fit_of}
use Rattle.switch_machine.proofs.Splits.{IsPut, IsSplit, New, Old, nat_split, put_at, put_by, put_off}

pub no_change : {X : Type 0} (c : Change) (cs : List Change) → IsIn c cs → cs ≡ [] → X
no_change c [] h e = elim h [ ]
no_change c (d ∷ ds) h e = absurd cc

module _ (plan : Ports) (tables : TableLaws plan) (m : Machine) (sound : IsConsistent plan m) (w : ℕ) (f : MachineFlight) (o : Owner) (leaving : Leaves m w f o) where
  abbrev b : MachineBoard
  b = m.board

  untouched_now : (p : Owner) → HasChangeOf plan (m.due w) p → ⊥
  untouched_now p t = no_change t.0 (m.due w) t.1 leaving.done

  pub leaver : IsUser plan b f.key o
  leaver = inl (w, f, leaving.flying, refl, inr leaving.leaves)

  fits : (r : Row) → f.new ≡ Some r → Fits plan f.key r
  fits = fit_of plan tables m sound w f leaving.flying

  pub runs_done : Runs plan f (StandsIn m) []
  runs_done = subst (Runs plan f (StandsIn m)) leaving.done (sound.runs w f leaving.flying)

  module _ (retires : Option Owner) (due : List Change) where
    abbrev g' : MachineFlight
    g' = parted f retires

    abbrev later : Machine
    later = left m w f retires due

    abbrev b' : MachineBoard
    b' = later.board

    by : (v : ℕ) (g : MachineFlight) → b'.flights v ≡ Some g → IsPut w v (Some g') b.flights (Some g)
    by v g h = put_by w v (Some g') b.flights (Some g) h

    pub here : b'.flights w ≡ Some g'
    here = put_at w w (Some g') b.flights refl

    -- an operation of the board as it is later, and as it was
    data Flies (v : ℕ) (g : MachineFlight) : Type 0 where
      Its : v ≡ w → g' ≡ g → Flies v g
      Another : (v ≡ w → ⊥) → b.flights v ≡ Some g → Flies v g

    flies : (v : ℕ) (g : MachineFlight) → b'.flights v ≡ Some g → Flies v g
    flies v g h = of (by v g h)
      where
        of : IsPut w v (Some g') b.flights (Some g) → Flies v g
        of (New same e) = Its same (same_Some g' g e)
        of (Old other there) = Another other there

    data Flew (v : ℕ) (g : MachineFlight) : Type 0 where
      It : v ≡ w → f ≡ g → Flew v g
      Same : (v ≡ w → ⊥) → b'.flights v ≡ Some g → Flew v g

    flew : (v : ℕ) (g : MachineFlight) → b.flights v ≡ Some g → Flew v g
    flew v g h = of (nat_split v w)
      where
        of : IsSplit v w → Flew v g
        of (inl same) = It same (same_Some f g (sym leaving.flying ∙ ap b.flights (sym same) ∙ h))
        of (inr other) = Same other (put_off w v (Some g') b.flights other ∙ h)

    row_was : (k : Key) (r : Row) → IsRow b' k r → IsRow b k r
    row_was k r (inl h) = inl h
    row_was k r (inr (v, g, at, is, new)) = of (flies v g at)
      where
        of : Flies v g → IsRow b k r
        of (Its same e) = inr (w, f, leaving.flying, ap (λ (z : MachineFlight). z.key) e ∙ is, ap (λ (z : MachineFlight). z.new) e ∙ new)
        of (Another other there) = inr (v, g, there, is, new)

    row_now : (k : Key) (r : Row) → IsRow b k r → IsRow b' k r
    row_now k r (inl h) = inl h
    row_now k r (inr (v, g, at, is, new)) = of (flew v g at)
      where
        of : Flew v g → IsRow b' k r
        of (It same e) = inr (w, g', here, ap (λ (z : MachineFlight). z.key) e ∙ is, ap (λ (z : MachineFlight). z.new) e ∙ new)
        of (Same other there) = inr (v, g, there, is, new)

    firm_now : (p : Key) → IsFirm b p → IsFirm b' p
    firm_now p firm = record { row = firm.row; applied = firm.applied; stays = λ v g at is none. of v g is none (flies v g at) }
      where
        of : (v : ℕ) (g : MachineFlight) → g.key ≡ p → g.goes ≡ true → Flies v g → ⊥
        of v g is none (Its same e) = firm.stays w f leaving.flying (ap (λ (z : MachineFlight). z.key) e ∙ is) (ap (λ (z : MachineFlight). z.goes) e ∙ none)
        of v g is none (Another other there) = firm.stays v g there is none

    firm_was : (p : Key) → IsFirm b' p → IsFirm b p
    firm_was p firm = record { row = firm.row; applied = firm.applied; stays = λ v g at is none. of v g is none (flew v g at) }
      where
        of : (v : ℕ) (g : MachineFlight) → g.key ≡ p → g.goes ≡ true → Flew v g → ⊥
        of v g is none (It same e) = firm.stays w g' here (ap (λ (z : MachineFlight). z.key) e ∙ is) (ap (λ (z : MachineFlight). z.goes) e ∙ none)
        of v g is none (Same other there) = firm.stays v g there is none

    rest_was : (k : Key) → IsResting b' k → IsResting b k
    rest_was k rests v g at is = of (flew v g at)
      where
        of : Flew v g → ⊥
        of (It same e) = rests w g' here (ap (λ (z : MachineFlight). z.key) e ∙ is)
        of (Same other there) = rests v g there is

    rest_now : (k : Key) → IsResting b k → IsResting b' k
    rest_now k rests v g at is = of (flies v g at)
      where
        of : Flies v g → ⊥
        of (Its same e) = rests w f leaving.flying (ap (λ (z : MachineFlight). z.key) e ∙ is)
        of (Another other there) = rests v g there is

    user_was : (k : Key) (p : Owner) → IsUser plan b' k p → IsUser plan b k p
    user_was k p (inr (rests, h)) = inr (rest_was k rests, h)
    user_was k p (inl (v, g, at, is, counts)) = of (flies v g at)
      where
        mine : f.key ≡ k → CountsAsUser plan g' p → IsUser plan b k p
        mine same (inl h) = inl (w, f, leaving.flying, same, inl h)
        mine same (inr h) = absurd (none-some p h)

        of : Flies v g → IsUser plan b k p
        of (Its same e) = mine (ap (λ (z : MachineFlight). z.key) e ∙ is) (subst (λ z. CountsAsUser plan z p) (sym e) counts)
        of (Another other there) = inl (v, g, there, is, counts)

    user_now : (k : Key) (p : Owner) → IsUser plan b k p → IsUser plan b' k p ⊎ ((k ≡ f.key) × (p ≡ o))
    user_now k p (inr (rests, h)) = inl (inr (rest_now k rests, h))
    user_now k p (inl (v, g, at, is, counts)) = of (flew v g at)
      where
        mine : f.key ≡ k → CountsAsUser plan f p → IsUser plan b' k p ⊎ ((k ≡ f.key) × (p ≡ o))
        mine same (inl h) = inl (inl (w, g', here, same, inl h))
        mine same (inr h) = inr (sym same, same_Some p o (sym h ∙ leaving.leaves))

        of : Flew v g → IsUser plan b' k p ⊎ ((k ≡ f.key) × (p ≡ o))
        of (It same e) = mine (ap (λ (z : MachineFlight). z.key) e ∙ is) (subst (λ z. CountsAsUser plan z p) (sym e) counts)
        of (Same other there) = inl (inl (v, g, there, is, counts))

    pub current-left : (good : TypedRows) (k : Key) → IsCurrent b good k → IsCurrent b' good k
    current-left good k (inl (rests, that)) = inl (rest_now k rests, that)
    current-left good k (inr (v, g, at, is, that)) = of (flew v g at)
      where
        of : Flew v g → IsCurrent b' good k
        of (It same e) = inr (w, g', here, ap (λ (z : MachineFlight). z.key) e ∙ is, ap (λ (z : MachineFlight). option_map bare z.new) e ∙ that)
        of (Same other there) = inr (v, g, there, is, that)

    -- the key itself uses only what its new row shares
    user_mine : (p : Owner) → IsUser plan b' f.key p → IsIn p (uses_of plan f.key f.new)
    user_mine p (inr (rests, h)) = absurd (rests w g' here refl)
    user_mine p (inl (v, g, at, is, counts)) = of (flies v g at)
      where
        mine : CountsAsUser plan g' p → IsIn p (uses_of plan f.key f.new)
        mine (inl h) = h
        mine (inr h) = absurd (none-some p h)

        of : Flies v g → IsIn p (uses_of plan f.key f.new)
        of (Its same e) = mine (subst (λ z. CountsAsUser plan z p) (sym e) counts)
        of (Another other there) = absurd (other (sound.board.one v w g f there leaving.flying is))

    module _ (h_left : (p : Owner) → retires ≡ Some p → WasUsed plan b.applied f.key p) (h_unused : (k : Key) (p : Owner) → retires ≡ Some p → IsUser plan b' k p → ⊥) (h_once : (v : ℕ) (g : MachineFlight) (p : Owner) → b.flights v ≡ Some g → (v ≡ w → ⊥) → retires ≡ Some p → g.retires ≡ Some p → ⊥) (h_held : IsUsedOrRetired plan b' o) (h_kept : (p : Owner) → f.retires ≡ Some p → retires ≡ Some p) (h_runs : Runs plan g' (StandsIn m) due) (h_quiet : (k : Key) (p : Owner) → HasChangeOf plan due p → IsUser plan b' k p → k ≡ f.key) where
      one_by : (u v : ℕ) (g h : MachineFlight) → g.key ≡ h.key → Flies u g → Flies v h → u ≡ v
      one_by u v g h same (Its x _) (Its y _) = x ∙ sym y
      one_by u v g h same (Its x e) (Another y there) = x ∙ sound.board.one w v f h leaving.flying there (ap (λ (z : MachineFlight). z.key) e ∙ same)
      one_by u v g h same (Another x there) (Its y e) = sound.board.one u w g f there leaving.flying (same ∙ sym (ap (λ (z : MachineFlight). z.key) e)) ∙ sym y
      one_by u v g h same (Another x there) (Another y at) = sound.board.one u v g h there at same

      leaves_by : (v : ℕ) (g : MachineFlight) (p : Owner) → g.leaves ≡ Some p → Flies v g → WasUsed plan b.applied g.key p × (IsIn p (uses_of plan g.key g.new) → ⊥) × (g.retires ≡ None)
      leaves_by v g p h (Its same e) = absurd (none-some p (ap (λ (z : MachineFlight). z.leaves) e ∙ h))
      leaves_by v g p h (Another other there) = sound.board.leaves v g p there h

      left_by : (v : ℕ) (g : MachineFlight) (p : Owner) → g.retires ≡ Some p → Flies v g → WasUsed plan b.applied g.key p
      left_by v g p h (Its same e) = subst (λ (z : MachineFlight). WasUsed plan b.applied z.key p) e (h_left p (ap (λ (z : MachineFlight). z.retires) e ∙ h))
      left_by v g p h (Another other there) = sound.board.left v g p there h

      unused_by : (v : ℕ) (g : MachineFlight) (k : Key) (p : Owner) → g.retires ≡ Some p → IsUser plan b' k p → Flies v g → ⊥
      unused_by v g k p h user (Its same e) = h_unused k p (ap (λ (z : MachineFlight). z.retires) e ∙ h) user
      unused_by v g k p h user (Another other there) = sound.board.unused v g k p there h (user_was k p user)

      once_by : (u v : ℕ) (g h : MachineFlight) (p : Owner) → g.retires ≡ Some p → h.retires ≡ Some p → Flies u g → Flies v h → u ≡ v
      once_by u v g h p x y (Its s _) (Its t _) = s ∙ sym t
      once_by u v g h p x y (Its s e) (Another t there) = absurd (h_once v h p there t (ap (λ (z : MachineFlight). z.retires) e ∙ x) y)
      once_by u v g h p x y (Another s there) (Its t e) = absurd (h_once u g p there s (ap (λ (z : MachineFlight). z.retires) e ∙ y) x)
      once_by u v g h p x y (Another s there) (Another t at) = sound.board.once u v g h p there at x y

      goes_by : (v : ℕ) (g : MachineFlight) → Flies v g → g.goes ≡ goes_over g.key (b.applied g.key) g.new
      goes_by v g (Its same e) = subst (λ (z : MachineFlight). z.goes ≡ goes_over z.key (b.applied z.key) z.new) e (sound.board.goes w f leaving.flying)
      goes_by v g (Another other there) = sound.board.goes v g there

      orderly : IsOrderly plan b'
      orderly = record {
        one = λ u v g h at there same. one_by u v g h same (flies u g at) (flies v h there);
        fit = λ k r row. sound.board.fit k r (row_was k r row);
        named = λ k p r row h. firm_now p (sound.board.named k p r (row_was k r row) h);
        goes = λ v g at. goes_by v g (flies v g at);
        inside = λ n ip len v u is at. sound.board.inside n ip len v u (row_was (key.Addr n ip len) (row.Addr v) is) at;
        leaves = λ v g p at h. leaves_by v g p h (flies v g at);
        left = λ v g p at h. left_by v g p h (flies v g at);
        unused = λ v g k p at h user. unused_by v g k p h user (flies v g at);
        once = λ u v g h p at there x y. once_by u v g h p x y (flies u g at) (flies v h there);
      }

      due_old : (v : ℕ) → (v ≡ w → ⊥) → later.due v ≡ m.due v
      due_old v other = put_off w v due m.due other

      due_new : (v : ℕ) → v ≡ w → later.due v ≡ due
      due_new v same = put_at w v due m.due same

      runs_by : (v : ℕ) (g : MachineFlight) → Flies v g → Runs plan g (StandsIn m) (later.due v)
      runs_by v g (Its same e) = subst (Runs plan g (StandsIn m)) (sym (due_new v same)) (subst (λ h. Runs plan h (StandsIn m) due) e h_runs)
      runs_by v g (Another other there) = subst (Runs plan g (StandsIn m)) (sym (due_old v other)) (sound.runs v g there)

      held_user : (k : Key) (p : Owner) → IsUser plan b' k p ⊎ ((k ≡ f.key) × (p ≡ o)) → IsUsedOrRetired plan b' p
      held_user k p (inl user) = inl (k, user)
      held_user k p (inr (same, is)) = subst (IsUsedOrRetired plan b') (sym is) h_held

      held_now : (p : Owner) → IsUsedOrRetired plan b p → IsUsedOrRetired plan b' p
      held_now p (inl (k, user)) = held_user k p (user_now k p user)
      held_now p (inr (v, g, at, h)) = of (flew v g at)
        where
          of : Flew v g → IsUsedOrRetired plan b' p
          of (It same e) = inr (w, g', here, h_kept p (ap (λ (z : MachineFlight). z.retires) e ∙ h))
          of (Same other there) = inr (v, g, there, h)

      -- the key's own things are those of its new row by now
      used_by : (k : Key) (p : Owner) (u : Thing) (n : ThingName) → StandsIn m u → IsOwnedBy plan (name_of u) (OfRow k) → Refers u n → IsOwnedBy plan n p → IsShared p → IsUser plan b' k p ⊎ ((k ≡ f.key) × (p ≡ o)) → IsUser plan b' k p
      used_by k p u n h is refers of shared (inl user) = user
      used_by k p u n h is refers of shared (inr (same, that)) =
          let final = (runs_done u (OfRow k, is, inl (ap OfRow same))).0 h in
          let r = own_row plan tables f fits u k is final in
          mine r.0 r.1 r.2 (tables.own_refers k r.0 u n (subst (λ q. Fits plan q r.0) r.2 (fits r.0 r.1)) r.3 refers)
        where
          mine : (r : Row) → f.new ≡ Some r → f.key ≡ k → IsNamed plan k r n ⊎ (IsOwnedBy plan n (OfRow k) ⊎ ((q : Owner) × IsOwnedBy plan n q × IsIn q (uses plan k r))) → IsUser plan b' k p
          mine r new is (inl named) = absurd (shared_row p named.by shared (one_owner plan n p (OfRow named.by) of (tables.names_own named.by n named.own)))
          mine r new is (inr (inl own)) = absurd (shared_row p k shared (one_owner plan n p (OfRow k) of own))
          mine r new is (inr (inr x)) =
              let q : x.0 ≡ p = one_owner plan n x.0 p x.1 of in
              let at : IsIn p (uses_of plan f.key f.new) = subst (λ z. IsIn p (uses_of plan f.key z)) (sym new) (subst (λ q. IsIn p (uses plan q r)) (sym is) (subst (λ z. IsIn z (uses plan k r)) q x.2)) in
              inl (w, g', here, is, inl at)

      still_quiet : (p : Owner) → ((v : ℕ) (g : MachineFlight) → b'.flights v ≡ Some g → HasChangeOf plan (later.due v) p → ⊥) → (v : ℕ) (g : MachineFlight) → HasChangeOf plan (m.due v) p → Flew v g → ⊥
      still_quiet p quiet v g t (It same e) = untouched_now p (subst (λ z. HasChangeOf plan (m.due z) p) same t)
      still_quiet p quiet v g t (Same other there) = quiet v g there (subst (λ d. HasChangeOf plan d p) (sym (due_old v other)) t)

      quiet_by : (v : ℕ) (g : MachineFlight) (k : Key) (p : Owner) → HasChangeOf plan (later.due v) p → IsUser plan b' k p → Flies v g → k ≡ g.key
      quiet_by v g k p t user (Its same e) = h_quiet k p (subst (λ d. HasChangeOf plan d p) (due_new v same) t) user ∙ ap (λ (z : MachineFlight). z.key) e
      quiet_by v g k p t user (Another other there) = sound.quiet v g k p there (subst (λ d. HasChangeOf plan d p) (due_old v other) t) (user_was k p user)

      sound-parted : IsConsistent plan later
      sound-parted = record {
        board = orderly;
        owned = sound.owned;
        rest = λ k u rests is. sound.rest k u (rest_was k rests) is;
        runs = λ v g at. runs_by v g (flies v g at);
        present = λ k n firm h. sound.present k n (firm_was k firm) h;
        like = λ k u h is. let x = sound.like k u h is in record { row = x.row; is = row_now k x.row x.is; thing = x.thing; of = x.of; resembles = x.resembles };
        held = λ p u h is shared. let x = sound.held p u h is shared in (x.0, held_now p x.1);
        used = λ k p u n h is refers of shared. used_by k p u n h is refers of shared (user_now k p (sound.used k p u n h is refers of shared));
        steady = sound.steady;
        whole = λ k p u user quiet h. sound.whole k p u (user_was k p user) (λ v g at t. still_quiet p quiet v g t (flew v g at)) h;
        quiet = λ v g k p at t user. quiet_by v g k p t user (flies v g at);
      }

-- others use it
module _ (plan : Ports) (tables : TableLaws plan) (m : Machine) (sound : IsConsistent plan m) (w : ℕ) (f : MachineFlight) (o : Owner) (x : LeavesOthers plan m w f o) where
  abbrev leaving : Leaves m w f o
  leaving = x.leaving

  abbrev after : MachineBoard
  after = (left m w f f.retires []).board

  held : IsUser plan after x.other o ⊎ ((x.other ≡ f.key) × (o ≡ o)) → IsUsedOrRetired plan after o
  held (inl user) = inl (x.other, user)
  held (inr (same, _)) = absurd (x.apart same)

  pub sound-left : IsConsistent plan (left m w f f.retires [])
  sound-left =
      sound-parted plan tables m sound w f o leaving f.retires []
      (λ p h. sound.board.left w f p leaving.flying h)
      (λ k p h user. sound.board.unused w f k p leaving.flying h (user_was plan tables m sound w f o leaving f.retires [] k p user))
      (λ v g p there other h e. other (sound.board.once v w g f p there leaving.flying e h))
      (held (user_now plan tables m sound w f o leaving f.retires [] x.other o x.user))
      (λ p h. h)
      (runs_done plan tables m sound w f o leaving)
      (λ k p t user. elim t.1 [ ])

-- the key was the last user
module _ (plan : Ports) (tables : TableLaws plan) (m : Machine) (sound : IsConsistent plan m) (w : ℕ) (f : MachineFlight) (o : Owner) (due : List Change) (x : LeavesLast plan m w f o due) where
  abbrev leaving_last : Leaves m w f o
  leaving_last = x.leaving

  abbrev after_last : MachineBoard
  after_last = (left m w f (Some o) due).board

  known : WasUsed plan m.board.applied f.key o × (IsIn o (uses_of plan f.key f.new) → ⊥) × (f.retires ≡ None)
  known = sound.board.leaves w f o leaving_last.flying leaving_last.leaves

  unused : (k : Key) → IsUser plan after_last k o → ⊥
  unused k user =
      let same : k ≡ f.key = x.last k (user_was plan tables m sound w f o leaving_last (Some o) due k o user) in
      known.1 (user_mine plan tables m sound w f o leaving_last (Some o) due o (subst (λ q. IsUser plan after_last q o) same user))

  pub sound-retiring : IsConsistent plan (left m w f (Some o) due)
  sound-retiring =
      sound-parted plan tables m sound w f o leaving_last (Some o) due
      (λ p h. subst (WasUsed plan m.board.applied f.key) (same_Some o p h) known.0)
      (λ k p h user. unused k (subst (IsUser plan after_last k) (sym (same_Some o p h)) user))
      (λ v g p there other h e. sound.board.unused v g f.key o there (e ∙ sym h) (leaver plan tables m sound w f o leaving_last))
      (inr (w, parted f (Some o), here plan tables m sound w f o leaving_last (Some o) due, refl))
      (λ p h. absurd (none-some p (sym known.2 ∙ h)))
      x.runs
      (λ k p t user. x.last k (user_was plan tables m sound w f o leaving_last (Some o) due k o (subst (IsUser plan after_last k) (x.about p t) user)))

-- What a core took in a round.
use Rattle.std.proofs.Common.{◌≡◌, ℕ, ◌+◌, ⊎_elim, List, [], ◌∷◌, ◌++◌, sym, ap, subst, ◌∙◌, arith, append_assoc}
use Rattle.table_schema.specs.declared.write.Sent.{Sent}
use Rattle.table_schema.specs.SentBy.{sent_of}
use Rattle.swss_script.specs.declared.parts.Section.{Section}
use Rattle.intake_queue.specs.Values.{IntakeId, IsFront, Sender, Receiver}
use Rattle.intake_queue.proofs.Writes.{sent_of-append}
use Rattle.round_actors.specs.declared.answers.Kept.{Kept}
use Rattle.round_actors.specs.declared.answers.Kept.TheVariants.{Nothing, LogFull, NoMemory}
use Rattle.round_actors.specs.Follows.{FollowsTaker, LacksLast}
use Rattle.round_actors.specs.Round.{ActorsRan, CoreRan, HasFront, own_sent}

front-of : (all : List Sent) (p : ℕ) (a b : List Sent) → HasFront all (sent_of p (a ++ b)) → HasFront all (sent_of p a)
front-of all p a b h = (sent_of p b ++ h.0, sym (append_assoc (sent_of p a) (sent_of p b) h.0) ∙ ap (λ l. l ++ h.0) (sym (sent_of-append p a b)) ∙ h.1)

module _ (intake : IntakeId) (sections : List Section) (passes : List Sender) (taker : Receiver) (made : ℕ) (before after : List Sent) (restarts restarts' : ℕ) (marked : restarts' ≡ restarts + made) where
  received-front : (kept : Kept) → ActorsRan intake sections passes taker kept made → (p : ℕ) → HasFront (own_sent p sections) (sent_of p taker.received)
  received-front kept h p = let m = h.met p in let f = h.fronts p in (m.queued ++ f.0, sym (append_assoc (sent_of p taker.received) m.queued f.0) ∙ ap (λ l. l ++ f.0) m.whole ∙ f.1)

  -- all that was received was taken
  all-of : (kept : Kept) → ActorsRan intake sections passes taker kept made → after ≡ before ++ taker.received → CoreRan sections kept before after restarts restarts'
  all-of kept h e = record {
    new = taker.received;
    taken = e;
    fronts = received-front kept h;
    whole = λ calm p. subst (IsFront (sent_of p taker.received)) (h.whole calm p) (h.met p);
    few = (let f = h.few in let m = marked in omega arith);
    restarts = λ calm. (let r = h.restarts calm in let m = marked in omega arith);
  }

  -- the last was refused
  but-last : (kept : Kept) → ActorsRan intake sections passes taker kept made → (kept ≡ Nothing → ⊥) → LacksLast before after taker.received → CoreRan sections kept before after restarts restarts'
  but-last kept h refused l = record {
    new = l.before;
    taken = l.taken_is;
    fronts = λ p. front-of (own_sent p sections) p l.before (l.last ∷ []) (subst (λ r. HasFront (own_sent p sections) (sent_of p r)) l.received_is (received-front kept h p));
    whole = λ calm. absurd (refused calm);
    few = (let f = h.few in let m = marked in omega arith);
    restarts = λ calm. absurd (refused calm);
  }

  pub core-ran : (kept : Kept) → ActorsRan intake sections passes taker kept made → FollowsTaker before after taker.received kept → CoreRan sections kept before after restarts restarts'
  core-ran Nothing h f = all-of Nothing h f
  core-ran LogFull h f = ⊎_elim (λ e. all-of LogFull h e) (λ l. but-last LogFull h (λ e. cc) l) f
  core-ran NoMemory h f = ⊎_elim (λ e. all-of NoMemory h e) (λ l. but-last NoMemory h (λ e. cc) l) f

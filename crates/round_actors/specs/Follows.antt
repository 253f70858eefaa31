-- What the value under the lock keeps of its core and its taker. Own.
use Rattle.std.specs.Prelude.{◌≡◌, ℕ, ◌+◌, ◌⊎◌, List, [], ◌∷◌, ◌++◌}
use Rattle.table_schema.specs.declared.write.Sent.{Sent}
use Rattle.intake_queue.specs.Values.{IntakeId, Receiver}
use Rattle.round_actors.specs.declared.answers.Kept.{Kept}
use Rattle.round_actors.specs.declared.answers.Kept.TheVariants.{Nothing, LogFull, NoMemory}

-- the writes taken since the opening are those received but the last
pub record LacksLast (opening taken received : List Sent) : Type 0 where
  pub before : List Sent
  pub last : Sent
  pub received_is : received ≡ before ++ last ∷ []
  pub taken_is : taken ≡ opening ++ before

-- they are those received; where a refusal is kept, the last one may be missing
abbrev pub FollowsTaker : List Sent → List Sent → List Sent → Kept → Type 0
FollowsTaker opening taken received Nothing = taken ≡ opening ++ received
FollowsTaker opening taken received LogFull = (taken ≡ opening ++ received) ⊎ LacksLast opening taken received
FollowsTaker opening taken received NoMemory = (taken ≡ opening ++ received) ⊎ LacksLast opening taken received

-- the taker is of the intake, the core took what was received, the restarts that it marked since the opening are those of the book,
-- no stop is booked where no refusal is kept, and the core is full where its log was refused a place
pub record SharedKeeps (intake : IntakeId) (opening : List Sent) (before : ℕ) (taken : List Sent) (restarts : ℕ) (full : Type 0) (taker : Receiver) (total stops : ℕ) (kept : Kept) : Type 0 where
  pub here : taker.intake ≡ intake
  pub follows : FollowsTaker opening taken taker.received kept
  pub marked : restarts ≡ before + total
  pub calm : kept ≡ Nothing → stops ≡ 0
  pub cause : kept ≡ LogFull → full

-- For which workers the operations of sessions are under way. Own.
use Rattle.std.specs.Prelude.{◌≡◌, ◌≤◌, ◌<◌, ℕ, List, [], ◌∷◌, None}
use Rattle.restart_laws.specs.Logged.{LoggedService}
use Rattle.warm_state.specs.declared.warm.Warm.TheVariants.{Reconciled}

-- where a session is reconciled, none but the first workers, so many, has an operation under way
abbrev pub IsByFirst : ℕ → LoggedService → Type 0
IsByFirst n s = s.service.warm ≡ Reconciled → (w : ℕ) → n ≤ w → s.service.core.machine.board.flights w ≡ None

-- it is so of each of these sessions
abbrev pub AreByFirst : ℕ → List LoggedService → Type 0
AreByFirst n [] = Unit {0}
AreByFirst n (s ∷ ss) = IsByFirst n s × AreByFirst n ss

-- from a session by so many workers, this one among them, comes one by the same
abbrev pub StaysByFirst : ℕ → LoggedService → LoggedService → Type 0
StaysByFirst w s t = (n : ℕ) → w < n → IsByFirst n s → IsByFirst n t

-- steps do so
abbrev pub StayByFirst : ℕ → LoggedService → List LoggedService → Type 0
StayByFirst w s steps = (n : ℕ) → w < n → IsByFirst n s → AreByFirst n steps

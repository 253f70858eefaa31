-- What contracts see of a log. Own.
use Rattle.std.specs.Prelude.{ℕ, ◌+◌, List, [], ◌∷◌, ◌++◌, length}
use Rattle.table_schema.specs.declared.write.Sent.{Sent}
use Rattle.switch_model.specs.declared.mark.Mark.{Mark}
use Rattle.switch_model.specs.declared.mark.MarkEvent.{MarkEvent}
use Rattle.switch_model.specs.declared.mark.MarkEvent.TheVariants as event

-- the writes taken, the marks, and the number of marks at the end of each round
pub record History : Type 0 where
  pub taken : List Sent
  pub marks : List Mark
  pub ends : List ℕ

abbrev pub no_history : History
no_history = record { taken = []; marks = []; ends = [] }

abbrev pub with_write : History → Sent → History
with_write h sent = record h { taken = h.taken ++ sent ∷ [] }

abbrev pub with_mark : History → Mark → History
with_mark h mark = record h { marks = h.marks ++ mark ∷ [] }

-- a round ends at the marks so far
abbrev pub with_end : History → History
with_end h = record h { ends = h.ends ++ length h.marks ∷ [] }

-- how many keys a mark lists, and marks together
abbrev pub keys_listed : MarkEvent → ℕ
keys_listed (event.Settled waits turns) = length waits
keys_listed (event.ApplyBegan mode waits) = length waits
keys_listed _ = 0

abbrev pub listed_by : List Mark → ℕ
listed_by [] = 0
listed_by (mark ∷ marks) = keys_listed mark.event + listed_by marks

-- the size of a log whose marks list so many keys, beside so many effects: a place for each of these, each write taken and each mark
abbrev pub size_listing : ℕ → History → ℕ → ℕ
size_listing listed h effects = effects + length h.taken + length h.marks + listed

-- the size of a log beside so many effects
abbrev pub log_size : History → ℕ → ℕ
log_size h effects = size_listing (listed_by h.marks) h effects

-- Writes that were sent, by who sent them. Own.
use Rattle.std.specs.Prelude.{ℕ, ◌==◌, List, filter}
use Rattle.table_schema.specs.declared.write.Sent.{Sent}

-- the writes of a sender among these, in order
abbrev pub sent_of : ℕ → List Sent → List Sent
sent_of sender sent = filter (λ s. s.from == sender) sent

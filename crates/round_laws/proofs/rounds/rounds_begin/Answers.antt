use Rattle.round_laws.proofs.Behind.{behind-rests}
use Rattle.round_laws.proofs.Between.{between-first, round-begins, round-takes}
use Rattle.round_laws.proofs.rounds.rounds_begin.Goals as goal

pub returns-clause-first : goal.returns-clause-first
returns-clause-first c = between-first

pub returns-clause-begins : goal.returns-clause-begins
returns-clause-begins c = λ workers. round-begins {workers = workers}

pub returns-clause-takes : goal.returns-clause-takes
returns-clause-takes c = λ workers since old core chip sent next x on. round-takes since old core chip sent next x on

pub returns-clause-behind : goal.returns-clause-behind
returns-clause-behind c = λ workers begun chip x applying earlier mark marks mode waits is counts popped lists core later y at free taken board tables counted. behind-rests begun chip x applying earlier mark marks mode waits is counts popped lists core later y at free taken board tables counted

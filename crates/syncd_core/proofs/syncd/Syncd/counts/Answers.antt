use Rattle.syncd_core.proofs.syncd.Syncd.counts.Goals as goal

pub returns-in-Some-clause-few : goal.returns-in-Some-clause-few
returns-in-Some-clause-few c = λ k. rw (← c.self.view_is, c.in-Some.is) (c.counts.ensures.few k)

pub returns-in-None-clause-few : goal.returns-in-None-clause-few
returns-in-None-clause-few c = λ k. rw (← c.self.view_is, c.in-None.is) (c.counts-in-None.ensures.few k)

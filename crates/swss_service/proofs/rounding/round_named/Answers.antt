use Rattle.swss_service.proofs.rounding.round_named.Goals as goal

pub finish-acted-requires : goal.finish-acted-requires
finish-acted-requires g c = record { acted = c.act-acted.ensures.acted }

pub end-requires : goal.end-requires
end-requires g c = record { rest = c.finish-acted.ensures.rest }

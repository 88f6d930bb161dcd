use Rattle.fir_flatten.proofs.clock_evidence.is_unclear.Goals as goal

pub returns-in-Number : goal.returns-in-Number
returns-in-Number c = λ types r before stands. rw c.in-Number.is (c.is_register_unclear.ensures types c.args.nodes.now c.in-Number.field-0 r before stands)

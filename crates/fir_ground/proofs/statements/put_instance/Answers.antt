use Rattle.fir_ground.proofs.InstanceWalks.{instance_none, instance_put}
use Rattle.fir_ground.proofs.statements.put_instance.Goals as goal

pub returns-in_default : goal.returns-in_default
returns-in_default c = λ modules whole before named name nodes h. absurd (instance_none _ _ (c.in_default.ensures modules whole before named name h))

pub returns : goal.returns
returns c = λ modules whole before named name nodes h.
    instance_put nodes c.args.out.now.items c.push.new.self.items _ _ c.in-Some.instance (c.in-Some.ensures modules whole before named name h)
    c.in_ok-push.ensures.items

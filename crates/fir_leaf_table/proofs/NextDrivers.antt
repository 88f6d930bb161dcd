-- The driver that is taken is that of the declaration that comes.
use Rattle.std.proofs.Common.{◌≡◌, List, Option, Some, None, refl, subst}
use Rattle.fir_ground.specs.declared.driver.Driver.{Driver}
use Rattle.fir_ground.specs.declared.driver.Driver.TheVariants.{Others, Node, Register}
use Rattle.fir_ground.specs.declared.driver.RegisterDriver.{RegisterDriver}
use Rattle.fir_ground.specs.working.DeclarationDrivers.{DriverMeant, ResetMeant, driver_seen, drivers_seen, node_terms, register_terms}
use Rattle.fir_leaf.specs.declared.node.Node.{Node as NodeOfCode}
use Rattle.fir_meaning.specs.working.Terms.{Term}
use Rattle.fir_leaf_table.specs.declared.walk.Walk.{Walk}
use Rattle.fir_leaf_table.specs.working.TakenDrivers.{TakesDriver}

pub takes_rest : (nodes : List NodeOfCode) (meant : DriverMeant) (rest : List DriverMeant) (o : Option Driver) (new : Walk) → TakesDriver nodes meant rest o new
    → drivers_seen nodes new.drivers.now ≡ rest
takes_rest nodes meant rest None new h = absurd h
takes_rest nodes meant rest (Some d) new h = h.1

pub takes_some : (nodes : List NodeOfCode) (meant : DriverMeant) (rest : List DriverMeant) (o : Option Driver) (d : Driver) (new : Walk) → o ≡ Some d
    → TakesDriver nodes meant rest o new → driver_seen nodes d ≡ meant
takes_some nodes meant rest o d new is h = (subst (λ x. TakesDriver nodes meant rest x new) is h).0

pub takes_none : (nodes : List NodeOfCode) (meant : DriverMeant) (rest : List DriverMeant) (o : Option Driver) (new : Walk) → o ≡ None
    → TakesDriver nodes meant rest o new → ⊥
takes_none nodes meant rest o new is h = subst (λ x. TakesDriver nodes meant rest x new) is h

-- no other driver stands for a node, or for a register
pub node_driver : (nodes : List NodeOfCode) (d : Driver) (ts : List Term) → driver_seen nodes d ≡ node_terms ts → ((ids : _) → d ≡ Node ids → ⊥) → ⊥
node_driver nodes Others ts is other = cc
node_driver nodes (Node ids) ts is other = other ids refl
node_driver nodes (Register r) ts is other = cc

pub register_driver : (nodes : List NodeOfCode) (d : Driver) (clock : Term) (reset : Option ResetMeant) → driver_seen nodes d ≡ register_terms clock reset
    → ((r : RegisterDriver) → d ≡ Register r → ⊥) → ⊥
register_driver nodes Others clock reset is other = cc
register_driver nodes (Node ids) clock reset is other = cc
register_driver nodes (Register r) clock reset is other = other r refl

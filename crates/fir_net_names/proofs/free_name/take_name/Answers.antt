use Rattle.std.proofs.Common.{List, ℕ, subst}
use Rattle.fir_net_names.specs.Names.{IsNameFor}
use Rattle.fir_net.specs.Paths.{base_name}
use Rattle.fir_net_names.specs.working.NameSets.{Holds}
use Rattle.fir_net_names.proofs.NamedSoFar.{takes}
use Rattle.fir_net_names.proofs.free_name.take_name.Goals as goal

pub returns : goal.returns
returns c =
    let taken = c.args.taken.now.names in
    let added = rw c.in_ok-name.ensures.same at c.in_ok-insert.ensures in
    let base = base_name c.args.path.now in
    let name = c.in_ok-name.name in
    let free : (names : List (List ℕ)) → Holds taken names → IsNameFor names base name = λ names h. subst (λ b. IsNameFor names b name) c.in_ok-base.ensures (c.in_ok-name.ensures.named names h) in
    takes taken c.insert.new.self.names base name c.in_ok-copy.field-0 free c.in_ok-copy.ensures added

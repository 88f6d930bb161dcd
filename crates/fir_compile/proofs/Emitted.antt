-- What is emitted for a text that is taken.
use Rattle.std.proofs.Common.{◌≡◌, ℕ, List, sym, subst}
use Rattle.ver_ast.specs.declared.tree.Verilog.{Verilog}
use Rattle.ver_ast.specs.declared.place.VPlace.{VPlace}
use Rattle.ver_ast.specs.Spells.{HasNames, VSpells}
use Rattle.ver_ast.specs.Valid.{Valid}
use Rattle.ver_ast.specs.working.Laws.{SpellsOneTree as VSpellsOneTree, SpellsButPlaces, with_places}
use Rattle.ver_emit.specs.Layout.{layout}
use Rattle.ver_emit.specs.Comments.{HasNoComment}
use Rattle.ver_emit.specs.working.Laws.{LayoutIsSpelled, LayoutHasNoComment}
use Rattle.fir_ast.specs.Circuits.{CircuitTree}
use Rattle.fir_parse.specs.working.Laws.{SpellsOneTree}
use Rattle.fir_outcome.specs.Compiles.{Compiles}
use Rattle.fir_outcome.specs.Emits.{Takes, Emits}

-- the tree that was built, with the places of its text
pub emits : SpellsOneTree → VSpellsOneTree → LayoutIsSpelled → LayoutHasNoComment → (read written : List ℕ) (c : CircuitTree) (v : Verilog) → Takes read c
    → ((places : List VPlace) → Compiles c (with_places v places)) → Valid v → HasNames v → written ≡ layout v → Emits read written
unfolding layout
emits one v_one spelled clean read written c v taken made valid names laid =
    let placed : SpellsButPlaces (layout v) v = spelled v valid names in
    let u : Verilog = with_places v placed.0 in
    let tree : VSpells written u = subst (λ bytes. VSpells bytes u) (sym laid) placed.1 in
    record {
      circuit = c;
      taken = taken;
      only_circuit = λ other s. one read other c s taken.spelled;
      verilog = u;
      v_spelled = tree;
      only_verilog = λ other s. v_one written other u s tree;
      laid_out = laid;
      uncommented = subst HasNoComment (sym laid) (clean v names);
      compiles = made placed.0;
    }

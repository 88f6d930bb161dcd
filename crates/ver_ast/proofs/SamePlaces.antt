-- Places count for nothing: what is said of a tree is said of it with other places.
use Rattle.std.proofs.Common.{ℕ, List, [], ◌∷◌, Option, Some, None}
use Rattle.std.specs.List.{AllByRecursion}
use Rattle.fir_base.specs.Ticks.{Env, Tick}
use Rattle.ver_ast.specs.declared.tree.Verilog.{Verilog}
use Rattle.ver_ast.specs.declared.tree.Write.{Write}
use Rattle.ver_ast.specs.declared.tree.Edge.{Edge}
use Rattle.ver_ast.specs.declared.tree.Rhs.{Rhs}
use Rattle.ver_ast.specs.declared.tree.Rhs.TheVariants as rhs
use Rattle.ver_ast.specs.declared.place.VPlace.{VPlace}
use Rattle.ver_ast.specs.Atoms.{net, constant}
use Rattle.ver_ast.specs.Nets.{AlwaysBlock, plain_block, resetting_block, writing_block}
use Rattle.ver_ast.specs.Valid.{Valid, IsSoundBlock, IsClockSide, IsEdge, IsWrite, AreWrites}
use Rattle.ver_ast.specs.Settled.{Rest, VSettled}
use Rattle.ver_ast.specs.Allows.{VAllows, VOne}
use Rattle.ver_ast.specs.working.Laws.{with_places}

module _ (v : Verilog) (places : List VPlace) where
  abbrev moved : Verilog
  moved = with_places v places

  moved_write : (name : List ℕ) (w : Write) → IsWrite v name w → IsWrite moved name w
  moved_write name w h = record {
    one_array = h.one_array;
    array = h.array;
    is_array = h.is_array;
    named = h.named;
    condition_wide = h.condition_wide;
    index_sound = h.index_sound;
    source_wide = h.source_wide;
  }

  moved_all : (name : List ℕ) (ws : List Write) → AllByRecursion (IsWrite v name) ws → AllByRecursion (IsWrite moved name) ws
  moved_all name [] h = tt
  moved_all name (w ∷ ws) h = (moved_write name w h.0, moved_all name ws h.1)

  moved_writes : (ws : List Write) → AreWrites v ws → AreWrites moved ws
  moved_writes [] h = tt
  moved_writes (w ∷ ws) h = moved_all w.array (w ∷ ws) h

  moved_block : (b : AlwaysBlock) → IsSoundBlock v b → IsSoundBlock moved b
  moved_block (plain_block b) h = record { clocked = h.clocked; width = h.width; register = h.register; wide = h.wide }
  moved_block (resetting_block b) h =
      record { bit = h.bit; one_reset = h.one_reset; register = h.register; constant_fits = h.constant_fits; clocked = moved_edge b.edge h.clocked }
    where
      moved_edge : (e : Option Edge) → IsEdge v b.target b.value.width e → IsEdge moved b.target b.value.width e
      moved_edge None k = k
      moved_edge (Some e) k = k
  moved_block (writing_block b) h = (h.0, moved_writes b.writes h.1)

  pub moved_valid : Valid v → Valid moved
  moved_valid h = record {
    declared_once = h.declared_once;
    declared_before = h.declared_before;
    plain_clocks = h.plain_clocks;
    narrow = h.narrow;
    narrow_words = h.narrow_words;
    few_words = h.few_words;
    sound_assigns = h.sound_assigns;
    driven_once = h.driven_once;
    driven = h.driven;
    driven_clocks = h.driven_clocks;
    clock_sides = λ a i. moved_side a.rhs (h.clock_sides a i);
    undriven_sources = h.undriven_sources;
    sound_blocks = λ b i. moved_block b (h.sound_blocks b i);
    written_once = h.written_once;
    ordered =
        (h.ordered.0, record { each = h.ordered.1.each; only = h.ordered.1.only; once = h.ordered.1.once; after = h.ordered.1.after });
  }
    where
      moved_side : (x : Rhs) → IsClockSide v x → IsClockSide moved x
      moved_side (rhs.Atom (net n)) k = k
      moved_side (rhs.Atom (constant w y)) k = k
      moved_side x k = absurd k

  pub moved_settled : (state : List ℕ) (tick : Tick) (env : Env) → VSettled v state tick env → VSettled moved state tick env
  moved_settled state tick env h = record { rest = moved_rest h.rest; values = h.values }
    where
      moved_rest : Rest v state tick env → Rest moved state tick env
      moved_rest k = record {
        begins = record {
          shaped = k.begins.shaped;
          input_values = k.begins.input_values;
          clock_values = k.begins.clock_values;
          state_values = k.begins.state_values;
        };
        fits = k.fits;
        shows = k.shows;
      }

  pub moved_allowance : (state : List ℕ) (tick : Tick) (shown : List ℕ) (clocks : List (Option ℕ)) (next : List ℕ)
      → VAllows v state tick shown clocks next → VAllows moved state tick shown clocks next
  moved_allowance state tick shown clocks next h = (h.0, moved_settled state tick h.0 h.1, h.2, h.3, h.4)

pub moved_one : (v : Verilog) (places : List VPlace) → VOne v → VOne (with_places v places)
moved_one v places h state tick shaped =
    let one = h state tick shaped in
    let back = λ (e : Env) (s : VSettled (with_places v places) state tick e). moved_settled (with_places v places) v.places state tick e s in
    record {
      env = one.env;
      settled = moved_settled v places state tick one.env one.settled;
      same = λ e f s t. one.same e f (back e s) (back f t);
      same_clocks = λ e f s t. one.same_clocks e f (back e s) (back f t);
    }

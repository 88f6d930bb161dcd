-- The names of a circle of processes are a closed walk.
use Rattle.std.proofs.Common.{◌≡◌, ℕ, List, [], ◌∷◌, ◌++◌, refl, sym, ap, ◌∙◌, subst}
use Rattle.std.specs.Prelude.{Option, Some, None, slice_get}
use Rattle.std.specs.Option.{option_to_list}
use Rattle.std.proofs.lemmas.Option.{same_Some}
use Rattle.fir_base.specs.Lists.{In, Distinct}
use Rattle.fir_base.proofs.Elements.{get_in}
use Rattle.fir_base.proofs.Members.{in_flat_map_from}
use Rattle.fir_graph.proofs.Positions.{distinct_at}
use Rattle.ver_ast.specs.declared.tree.Verilog.{Verilog}
use Rattle.ver_ast.specs.Processes.{processes, process_reads, process_targets, target}
use Rattle.ver_valid.specs.working.Circles.{IsCircle, ReadOn, ReadsFrom}
use Rattle.ver_valid.proofs.ProcessReads.{get_mapped, only_some}
use Rattle.ver_loop.specs.Loops.{Chained, Depends, IsClosedWalk}
use Rattle.ver_loop.specs.working.Rounds.{named, round}

module _ (v : Verilog) (once : Distinct (process_targets (processes v))) where
  abbrev names : List (List ℕ)
  names = process_targets (processes v)

  -- what a process reads of the next one it depends on
  depends : (i k : ℕ) (r : ReadsFrom v i k) (n : List ℕ) → slice_get names k ≡ Some n → Depends v (target r.reader) n
  depends i k r n e = record {
    process = r.reader;
    is_process = get_in (processes v) i r.reader r.is_reader;
    gives = refl;
    reads = subst (In (process_reads r.reader)) (same_Some r.net n (sym r.gives ∙ e)) r.reads;
  }

  -- the names from a number on, each of which depends on the next, and the last one on another name
  record Names (i : ℕ) (is : List ℕ) (last : List ℕ) : Type 0 where
    start : List ℕ
    between : List (List ℕ)
    start_is : slice_get names i ≡ Some start
    between_are : named names is ≡ between
    chained : Chained v start (between ++ last ∷ [])

  names_on : (is : List ℕ) (i k : ℕ) (last : List ℕ) → ReadOn v i is k → slice_get names k ≡ Some last → Names i is last
  names_on [] i k last r e = record {
    start = target r.reader;
    between = [];
    start_is = get_mapped target (processes v) i r.reader r.is_reader;
    between_are = refl;
    chained = (depends i k r last e, tt);
  }
  names_on (j ∷ js) i k last r e =
      let more = names_on js j k last r.1 e in record {
        start = target r.0.reader;
        between = more.start ∷ more.between;
        start_is = get_mapped target (processes v) i r.0.reader r.0.is_reader;
        between_are = ap (λ (o : Option (List ℕ)). option_to_list o ++ named names js) more.start_is ∙ ap (λ (ns : List (List ℕ)). more.start ∷ ns) more.between_are;
        chained = (depends i j r.0 more.start more.start_is, more.chained);
      }

  first_name : (is : List ℕ) (i k : ℕ) → ReadOn v i is k → (n : List ℕ) × (slice_get names i ≡ Some n)
  first_name [] i k r = (target r.reader, get_mapped target (processes v) i r.reader r.is_reader)
  first_name (j ∷ js) i k r = (target r.0.reader, get_mapped target (processes v) i r.0.reader r.0.is_reader)

  -- other numbers have other names
  names_once : (is : List ℕ) → Distinct is → Distinct (named names is)
  names_once [] d = tt
  names_once (i ∷ is) d = by (slice_get names i) refl (names_once is d.1)
    where
      by : (o : Option (List ℕ)) → slice_get names i ≡ o → Distinct (named names is) → Distinct (option_to_list o ++ named names is)
      by None e rest = rest
      by (Some n) e rest = (
        λ m.
            let j = in_flat_map_from (λ (x : ℕ). option_to_list (slice_get names x)) is n m in
            let same : j.0 ≡ i = distinct_at names once j.0 i n (only_some (slice_get names j.0) n j.2) e in
            d.0 (subst (In is) same j.1),
        rest,
      )

  pub closed_walk : (circle : List ℕ) → IsCircle v circle → IsClosedWalk v (round names circle)
  closed_walk [] c = absurd c.round
  closed_walk (i ∷ is) c =
      let first = first_name is i i c.round in
      let rest = names_on is i i first.0 c.round first.1 in
      let start : rest.start ≡ first.0 = same_Some rest.start first.0 (sym rest.start_is ∙ first.1) in
      let all : named names (i ∷ is) ≡ first.0 ∷ rest.between =
      ap (λ (o : Option (List ℕ)). option_to_list o ++ named names is) first.1 ∙ ap (λ (ns : List (List ℕ)). first.0 ∷ ns) rest.between_are in
      record {
        first = first.0;
        between = rest.between;
        walk_is =
            ap (λ (ns : List (List ℕ)). ns ++ (option_to_list (slice_get names i) ++ [])) all
            ∙ ap (λ (o : Option (List ℕ)). first.0 ∷ (rest.between ++ (option_to_list o ++ []))) first.1;
        chained = subst (λ (n : List ℕ). Chained v n (rest.between ++ first.0 ∷ [])) start rest.chained;
        once = subst Distinct all (names_once (i ∷ is) c.once);
      }

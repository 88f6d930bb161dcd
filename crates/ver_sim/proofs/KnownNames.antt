-- What the tables of a tree tell of its names.
use Rattle.std.proofs.Common.{◌≡◌, ℕ, zero, suc, ◌≤◌, List, [], ◌∷◌, ◌++◌, get_or, refl, sym, ap, ◌∙◌, inl, inr, subst}
use Rattle.std.specs.Prelude.{Option, Some, None, unwrap_or, slice_get, slice_index}
use Rattle.std.specs.Str.{bytes_eq}
use Rattle.std.proofs.lemmas.Bool.{cond-true, cond-false}
use Rattle.fir_base.specs.Lists.{In, Distinct}
use Rattle.fir_base.proofs.Elements.{get_in}
use Rattle.fir_base.proofs.Members.{in_left, in_map}
use Rattle.fir_base.proofs.SameNames.{name_same, name_other}
use Rattle.fir_base.proofs.Twins.{distinct_left, distinct_right, distinct_joined, apart}
use Rattle.ver_ast.specs.declared.tree.Verilog.{Verilog}
use Rattle.ver_ast.specs.Nets.{SizedNet, nets, regs, arrays, clocks, names_of, widths_of, width_among, variables, variable_names}
use Rattle.ver_ast.specs.Valid.{Valid}
use Rattle.ver_ast.proofs.NextFits.{width_there}
use Rattle.ver_ast.proofs.Processes.{read_once, variables_once}
use Rattle.ver_sim.specs.declared.declarations.Span.{Span}
use Rattle.ver_sim.specs.declared.names.Numbers.{Numbers}
use Rattle.ver_sim.specs.declared.tables.Tables.{Tables}
use Rattle.ver_sim.specs.working.Valued.{place_among, valued}
use Rattle.ver_sim.specs.working.FlatStates.{base_of, depth_of}
use Rattle.ver_sim.specs.working.Names.{number_in, IsNumbering}
use Rattle.ver_sim.specs.working.Tables.{Know}
use Rattle.ver_sim.proofs.PlacedNames.{place_is}
use Rattle.ver_sim.proofs.WordSpans.{one_list, span_is}

pub valued_once : (v : Verilog) → Valid v → Distinct (valued v)
valued_once v valid =
    let once = read_once v valid in
    distinct_joined (names_of (nets v)) (clocks v) (distinct_right (clocks v) (names_of (nets v)) once) (distinct_left (clocks v) (names_of (nets v)) once)
    (λ n m o. apart (clocks v) (names_of (nets v)) once n o m)

number_found : (names : List (List ℕ)) (numbers : Numbers) → Distinct names → IsNumbering names numbers → (n : List ℕ) → In names n
    → number_in numbers n ≡ Some (place_among names n)
number_found names numbers d t n m = by (number_in numbers n) refl
  where
    by : (o : Option ℕ) → number_in numbers n ≡ o → o ≡ Some (place_among names n)
    by None e = absurd (t.missed n e m)
    by (Some i) e = ap Some (sym (place_is names d i n (t.found n i e)))

-- the widths stand as the names do
width_at : (ns : List SizedNet) (rest : List (List ℕ)) → Distinct (names_of ns ++ rest) → (i : ℕ) (n : List ℕ) → slice_get (names_of ns ++ rest) i ≡ Some n
    → In (names_of ns) n → get_or (widths_of ns) i 0 ≡ width_among ns n
width_at [] rest d i n e m = absurd m
width_at (s ∷ ns) rest d zero n e m =
    let same : s.0 ≡ n = cc in
    sym (cond-true (bytes_eq s.0 n) s.1 (width_among ns n) (ap (bytes_eq s.0) (sym same) ∙ name_same s.0))
width_at (s ∷ ns) rest d (suc i) n e (inl f) = absurd (d.0 (subst (In (names_of ns ++ rest)) (sym f) (get_in (names_of ns ++ rest) i n e)))
width_at (s ∷ ns) rest d (suc i) n e (inr m) =
    width_at ns rest d.1 i n e m
    ∙ sym (cond-false (bytes_eq s.0 n) s.1 (width_among ns n) (name_other s.0 n (λ f. d.0 (subst (In (names_of ns ++ rest)) (sym f) (in_left (names_of ns) rest n m)))))

module _ (v : Verilog) (t : Tables) (k : Know v t) (n : List ℕ) where
  pub place_found : In (valued v) n → unwrap_or (number_in t.places n) 0 ≡ place_among (valued v) n
  place_found m = ap (λ (o : Option ℕ). unwrap_or o 0) (number_found (valued v) t.places (valued_once v k.valid) k.places n m)

  pub width_found : (i : ℕ) → number_in t.places n ≡ Some i → In (names_of (nets v)) n → slice_index t.widths.items i ≡ width_among (nets v) n
  width_found i e m =
      ap (λ (ws : List ℕ). get_or ws i 0) k.widths ∙ width_at (nets v) (clocks v) (valued_once v k.valid) i n (k.places.found n i e) m

  pub no_width : number_in t.places n ≡ None → In (names_of (nets v)) n → 0 ≡ width_among (nets v) n
  no_width e m = absurd (k.places.missed n e (in_left (names_of (nets v)) (clocks v) n m))

  pub span_found : (i : ℕ) (none : Span) → number_in t.words n ≡ Some i
      → unwrap_or (slice_get t.spans.items i) none ≡ record { base = base_of (variables v) n; depth = depth_of (variables v) n }
  span_found i none e =
      ap (λ (ss : List Span). unwrap_or (slice_get ss i) none) (k.spans ∙ one_list (regs v) (arrays v))
      ∙ ap (λ (o : Option Span). unwrap_or o none) (span_is (variables v) (variables_once v k.valid) i n (k.words.found n i e))

  pub no_span : number_in t.words n ≡ None → In (variable_names (variables v)) n → (none : Span) → none ≡ record { base = base_of (variables v) n; depth = depth_of (variables v) n }
  no_span e m none = absurd (k.words.missed n e m)

-- a net that has a width has a value
pub wide_is_net : (v : Verilog) (n : List ℕ) → 1 ≤ width_among (nets v) n → In (names_of (nets v)) n
wide_is_net v n le = in_map (λ (s : SizedNet). s.0) (nets v) (n, width_among (nets v) n) (width_there (nets v) n le)

pub net_is_valued : (v : Verilog) (n : List ℕ) → In (names_of (nets v)) n → In (valued v) n
net_is_valued v n m = in_left (names_of (nets v)) (clocks v) n m

-- Where every process shows the value of its right side all is at rest, and where each has one all is settled.
use Rattle.std.proofs.Common.{◌≡◌, ℕ, List, refl, sym, ap, ⊎_elim, subst}
use Rattle.std.specs.Prelude.{Some, None, Option, IsSome, unwrap_or, ◌↔◌}
use Rattle.fir_base.specs.Lists.{In}
use Rattle.fir_base.specs.Ticks.{Env, Tick}
use Rattle.ver_ast.specs.declared.tree.Verilog.{Verilog}
use Rattle.ver_ast.specs.Nets.{names_of, variables}
use Rattle.ver_ast.specs.Valid.{Valid}
use Rattle.ver_ast.specs.Stores.{store_of}
use Rattle.ver_ast.specs.Processes.{Process, processes, target, process_targets, process_reads, wanted}
use Rattle.ver_ast.specs.Settled.{SourcesShown, Rest, VSettled}
use Rattle.ver_ast.proofs.Values.{Agree}
use Rattle.ver_ast.proofs.Processes.{same_wanted, sources}
use Rattle.ver_ast.proofs.OneRest.{same_sources, agree_along}
use Rattle.ver_order.specs.working.Laws.{ShowAll, ShowValues}
use Rattle.ver_order.proofs.Rounds.{reads_known, rest_of}

-- what a process reads has one value at rest
same_read : (v : Verilog) (valid : Valid v) (state : List ℕ) (tick : Tick) (f g : Env) → Rest v state tick f → Rest v state tick g → (p : Process)
    → In (processes v) p → Agree f g (process_reads p)
same_read v valid state tick f g r q p m = record {
  each = λ n o.
      ⊎_elim
      (λ (s : In (names_of (sources v)) n). same_sources v valid state tick f g r.begins q.begins n s)
      (λ (t : In (process_targets valid.ordered.0) n).
      agree_along v (store_of (variables v) state) f g (names_of (sources v)) valid.ordered.0 valid.ordered.1.after
      (λ z i. (r.shows z (valid.ordered.1.only z i), q.shows z (valid.ordered.1.only z i))) (same_sources v valid state tick f g r.begins q.begins) n t)
      (reads_known (names_of (sources v)) valid.ordered.0 valid.ordered.1.after p (valid.ordered.1.each p m) n o);
}

-- where one choice at rest has values, each has
pub settled_where_one_is : (v : Verilog) → Valid v → (state : List ℕ) (tick : Tick) (f g : Env) → VSettled v state tick f → Rest v state tick g → VSettled v state tick g
settled_where_one_is v valid state tick f g s r = record {
  rest = r;
  values = λ p m. subst (λ (o : Option ℕ). IsSome o) (same_wanted v (store_of (variables v) state) f g p (same_read v valid state tick f g s.rest r p m)) (s.values p m);
}

pub shown_rest : (v : Verilog) → Valid v → (state : List ℕ) (tick : Tick) (env : Env) → SourcesShown v state tick env
    → ShowAll v state env ↔ Rest v state tick env
shown_rest v valid state tick env b = (λ h. rest_of v valid state tick env b h, λ r. r.shows)

wanted_value : (o : Option ℕ) (x : ℕ) → IsSome o → x ≡ unwrap_or o 0 → o ≡ Some x
wanted_value None x s e = absurd (cc)
wanted_value (Some y) x s e = ap Some (sym e)

has_value : (o : Option ℕ) (x : ℕ) → o ≡ Some x → IsSome o × (x ≡ unwrap_or o 0)
has_value None x e = absurd (cc)
has_value (Some y) x e = (refl, sym (cc))

pub shown_settled : (v : Verilog) → Valid v → (state : List ℕ) (tick : Tick) (env : Env) → SourcesShown v state tick env
    → ShowValues v state env ↔ VSettled v state tick env
shown_settled v valid state tick env b = (
  λ h. record {
    rest = rest_of v valid state tick env b (λ p m. (has_value (wanted v (store_of (variables v) state) env p) (env (target p)) (h p m)).1);
    values = λ p m. (has_value (wanted v (store_of (variables v) state) env p) (env (target p)) (h p m)).0;
  },
  λ s p m. wanted_value (wanted v (store_of (variables v) state) env p) (env (target p)) (s.values p m) (s.rest.shows p m),
)

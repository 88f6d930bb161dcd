use Rattle.std.proofs.Common.{rules, ◌≡◌, [], flat_map, sym, subst}
use Rattle.fir_ast.specs.working.Views.{circuit_of}
use Rattle.fir_type_table.specs.working.Tables.{types_of}
use Rattle.fir_types.specs.working.Judged.{IsFirstOf}
use Rattle.fir_least_widths.specs.working.Bounds.{IsLeast}
use Rattle.fir_meaning.specs.working.AssignedWidths.{assigned}
use Rattle.fir_infer_widths.specs.working.SpotFaults.{over_at, legal_at}
use Rattle.fir_infer_widths.proofs.FittedCircuits.{bounds_within, told_over, told_illegal, fits}
use Rattle.fir_infer_widths.proofs.fit.widths_of.Goals as goal

pub least_widths-requires : goal.least_widths-requires
least_widths-requires c =
    let is = c.in_ok-walked.ensures in
    rw c.as_slice.ensures.value
    (bounds_within (circuit_of c.named.result.now) (types_of c.findings-findings.result.now.table) c.in_ok-walked.walked is c.len-unknowns.result (c.len-unknowns.ensures _ _ is.keeps))

pub returns-in_err-nothing_over : goal.returns-in_err-nothing_over
returns-in_err-nothing_over c =
    let ts = types_of c.findings-findings.result.now.table in
    let found = c.in_ok-widths.widths.items in
    let least = subst (λ bounds. IsLeast bounds (assigned found)) c.as_slice.ensures.value c.in_ok-widths.ensures.least in
    let e = c.in_err-nothing_over.field-0.0 in
    let read : IsFirstOf (flat_map (over_at ts (assigned found)) c.as_slice-3.result.now) e =
    subst (λ ws. IsFirstOf (flat_map (over_at ts (assigned ws)) c.as_slice-3.result.now) e) c.as_slice-2.ensures.value c.in_err-nothing_over.ensures in
    let first = subst (λ spots. IsFirstOf (flat_map (over_at ts (assigned found)) spots) e) c.as_slice-3.ensures.value read in
    let told = told_over (circuit_of c.named.result.now) ts c.in_ok-walked.walked c.in_ok-walked.ensures c.monotone.ensures found least e first in
    rw (sym c.named.ensures.tree) (search rules)

pub returns-in_err-all_legal : goal.returns-in_err-all_legal
returns-in_err-all_legal c =
    let ts = types_of c.findings-findings.result.now.table in
    let found = c.in_ok-widths.widths.items in
    let least = subst (λ bounds. IsLeast bounds (assigned found)) c.as_slice.ensures.value c.in_ok-widths.ensures.least in
    let read_over : flat_map (over_at ts (assigned found)) c.as_slice-3.result.now ≡ [] =
    subst (λ ws. flat_map (over_at ts (assigned ws)) c.as_slice-3.result.now ≡ []) c.as_slice-2.ensures.value c.in_ok-nothing_over.ensures in
    let over = subst (λ spots. flat_map (over_at ts (assigned found)) spots ≡ []) c.as_slice-3.ensures.value read_over in
    let e = c.in_err-all_legal.field-0.0 in
    let read : IsFirstOf (flat_map (legal_at ts (assigned found)) c.as_slice-5.result.now) e =
    subst (λ ws. IsFirstOf (flat_map (legal_at ts (assigned ws)) c.as_slice-5.result.now) e) c.as_slice-4.ensures.value c.in_err-all_legal.ensures in
    let first = subst (λ spots. IsFirstOf (flat_map (legal_at ts (assigned found)) spots) e) c.as_slice-5.ensures.value read in
    let told = told_illegal (circuit_of c.named.result.now) ts c.in_ok-walked.walked c.in_ok-walked.ensures c.monotone.ensures found least e over first in
    rw (sym c.named.ensures.tree) (search rules)

pub returns : goal.returns
returns c =
    let ts = types_of c.findings-findings.result.now.table in
    let found = c.in_ok-widths.widths.items in
    let least = subst (λ bounds. IsLeast bounds (assigned found)) c.as_slice.ensures.value c.in_ok-widths.ensures.least in
    let read_over : flat_map (over_at ts (assigned found)) c.as_slice-3.result.now ≡ [] =
    subst (λ ws. flat_map (over_at ts (assigned ws)) c.as_slice-3.result.now ≡ []) c.as_slice-2.ensures.value c.in_ok-nothing_over.ensures in
    let over = subst (λ spots. flat_map (over_at ts (assigned found)) spots ≡ []) c.as_slice-3.ensures.value read_over in
    let read_legal : flat_map (legal_at ts (assigned found)) c.as_slice-5.result.now ≡ [] =
    subst (λ ws. flat_map (legal_at ts (assigned ws)) c.as_slice-5.result.now ≡ []) c.as_slice-4.ensures.value c.in_ok-all_legal.ensures in
    let legal = subst (λ spots. flat_map (legal_at ts (assigned found)) spots ≡ []) c.as_slice-5.ensures.value read_legal in
    rw (sym c.named.ensures.tree) (fits (circuit_of c.named.result.now) ts c.in_ok-walked.walked c.in_ok-walked.ensures c.monotone.ensures found least over legal)

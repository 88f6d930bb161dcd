-- The leaves that a term of a net reads.
use Rattle.std.specs.Prelude.{ℕ, List, [], ◌∷◌, ◌++◌}
use Rattle.fir_connect.specs.working.NetTerms.{NetTerm, NetTerms, value, leaf, operation, mux, no_terms, term}

abbrev mutual
  pub net_reads : NetTerm → List ℕ
  net_reads (value v) = []
  net_reads (leaf x) = x ∷ []
  net_reads (operation op ts ks t) = each_read ts
  net_reads (mux c a b t) = net_reads c ++ net_reads a ++ net_reads b

  pub each_read : NetTerms → List ℕ
  each_read no_terms = []
  each_read (term t ts) = net_reads t ++ each_read ts

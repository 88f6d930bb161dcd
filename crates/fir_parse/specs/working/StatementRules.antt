-- Statements (FIRRTL spec, "Statements"):
--   block = NL [ IN stmt* OUT ]
--   stmt  = "wire" name ":" type NL | "reg" name ":" type "," expr [ with ] NL | "node" name "=" expr NL | "inst" name "of" name NL
--         | "mem" name ":" NL [ IN field+ OUT ] | when | ref "<=" expr NL | ref "<-" expr NL | ref "is" "invalid" NL | "skip" NL
--   with  = "with" ":" "(" rst ")"  |  "with" ":" NL IN rst NL OUT      (the second ends the statement)
--   rst   = "reset" "=>" "(" expr "," expr ")"
--   when  = "when" expr ":" block [ "else" ":" block | "else" when ]
-- A statement whose second token is `<=`, `<-`, `.` or `[`, or whose second and third are `is` and `invalid`, begins with a ref.
use Rattle.std.specs.Prelude.{ℕ, ◌+◌, List, [], ◌∷◌, ◌++◌, length, Bool, false, Option, Some, None, codes, if◌then◌else◌}
use Rattle.std.specs.Str.{bytes_eq}
use Rattle.fir_ast.specs.declared.place.Place.{Place}
use Rattle.fir_ast.specs.Expressions.{Expression, reference, no_parts}
use Rattle.fir_ast.specs.Statements.{PlacedName, SinkReference, Reset, Statement, wire, register, node, instance, memory, when, connect, partial_connect, invalid, skip, Block, done, then}
use Rattle.fir_parse.specs.declared.lexeme.Mark.{Mark}
use Rattle.fir_parse.specs.declared.lexeme.Mark.TheVariants.{Connect, PartialConnect, Arrow, Equals, OpenRound, CloseRound, OpenSquare, Comma, Colon, Dot}
use Rattle.fir_parse.specs.declared.words.Declaration.{Declaration}
use Rattle.fir_parse.specs.declared.words.Declaration.TheVariants as declares
use Rattle.fir_parse.specs.declared.words.Lead.{Lead}
use Rattle.fir_parse.specs.declared.words.Lead.TheVariants as lead
use Rattle.fir_parse.specs.Lexemes.{Lexeme, word, mark, line_end, level_closes, level_opens}
use Rattle.fir_parse.specs.working.Words.{lead_of}
use Rattle.fir_parse.specs.working.Symbols.{OpenWhen, Begun, statement, open_when, Otherwise, else_block, else_when, no_else, a_mark, a_word, a_name, a_line_end, an_opening, a_closing, a_type, an_expression, behind_word, statements, behind_first, behind_is, behind_else, behind_sink, an_indented_block, a_reset, behind_with, a_memory_body}
use Rattle.fir_parse.specs.working.States.{State, wants, Step, takes, without, refuses, unsupported, mapped, opens}
use Rattle.fir_parse.specs.working.ExpressionRules.{dot_rest, index_rest, reference_rest}

-- the end of a line, behind a tree
abbrev pub ends_line : {T : Type 0} → T → (T → State) → State
ends_line x k = wants a_line_end (λ p. k x)

-- a name without parts, as a sink
abbrev pub bare : Place → List ℕ → SinkReference
bare p w = record { place = p; name = w; parts = no_parts }

abbrev pub connect_rest : ℕ → SinkReference → (Statement → State) → State
connect_rest d s k = wants (an_expression d) (λ e. ends_line (connect s.place s e) k)

abbrev pub partial_connect_rest : ℕ → SinkReference → (Statement → State) → State
partial_connect_rest d s k = wants (an_expression d) (λ e. ends_line (partial_connect s.place s e) k)

-- behind a sink
abbrev pub sink_step : ℕ → SinkReference → Lexeme → Place → Step Statement
sink_step d s (mark Connect) p = takes (λ k. connect_rest d s k)
sink_step d s (mark PartialConnect) p = takes (λ k. partial_connect_rest d s k)
sink_step d s (word w) p = if bytes_eq w (codes "is") then takes (λ k. wants (a_word (codes "invalid")) (λ q. ends_line (invalid s.place s) k)) else refuses
sink_step d s _ p = refuses

-- a statement that begins with a name, with the sign behind the name; nothing for other signs
abbrev pub ref_step : ℕ → Place → List ℕ → Mark → Place → Option (Step Statement)
ref_step d p w Connect q = Some (takes (λ k. connect_rest d (bare p w) k))
ref_step d p w PartialConnect q = Some (takes (λ k. partial_connect_rest d (bare p w) k))
ref_step d p w Dot q = Some (takes (λ k. dot_rest d 1 q (λ ps. wants (behind_sink d (record { place = p; name = w; parts = ps })) k)))
ref_step d p w OpenSquare q = Some (takes (λ k. index_rest d 1 q (λ ps. wants (behind_sink d (record { place = p; name = w; parts = ps })) k)))
ref_step d p w _ q = None

-- behind `wire name :`
abbrev pub wire_rest : ℕ → Place → PlacedName → (Statement → State) → State
wire_rest d p n k = wants (a_type d) (λ t. ends_line (wire p n t.place t.data_type) k)

-- behind `reg name :`
abbrev pub register_rest : ℕ → Place → PlacedName → (Statement → State) → State
register_rest d p n k =
    wants (a_type d) (λ t. wants (a_mark Comma) (λ q. wants (an_expression d) (λ c. wants (a_reset d) (λ r. k (register p n t.place t.data_type c r)))))

-- behind `node name =`
abbrev pub node_rest : ℕ → Place → PlacedName → (Statement → State) → State
node_rest d p n k = wants (an_expression d) (λ e. ends_line (node p n e) k)

-- behind `inst name of`
abbrev pub instance_rest : Place → PlacedName → (Statement → State) → State
instance_rest p n k = wants a_name (λ m. ends_line (instance p n m) k)

-- behind `mem name :`
abbrev pub memory_rest : ℕ → Place → PlacedName → (Statement → State) → State
memory_rest d p n k = wants a_line_end (λ q. wants (a_memory_body d) (λ fs. k (memory p n fs)))

-- behind the colon of a when
abbrev pub when_block : ℕ → Place → Expression → (OpenWhen → State) → State
when_block d p e k = wants a_line_end (λ q. opens d q (wants (an_indented_block (d + 1)) (λ b. k (record { place = p; condition = e; block = b }))))

-- behind the condition of a when
abbrev pub when_rest : ℕ → Place → Expression → (OpenWhen → State) → State
when_rest d p e k = wants (a_mark Colon) (λ q. when_block d p e k)

abbrev pub begun : (Begun → State) → Statement → State
begun k s = k (statement s)

-- a statement that begins with a ref, behind its name
abbrev pub ref_rest : ℕ → Place → List ℕ → (Statement → State) → State
ref_rest d p w k = reference_rest d p w (λ s. wants (behind_sink d s) k)

-- a declaration behind its name, or a when behind the first word of its condition
abbrev pub declared : Declaration → ℕ → Place → PlacedName → (Begun → State) → State
declared declares.Wire d p n k = wants (a_mark Colon) (λ r. wire_rest d p n (begun k))
declared declares.Reg d p n k = wants (a_mark Colon) (λ r. register_rest d p n (begun k))
declared declares.Node d p n k = wants (a_mark Equals) (λ r. node_rest d p n (begun k))
declared declares.Inst d p n k = wants (a_word (codes "of")) (λ r. instance_rest p n (begun k))
declared declares.Mem d p n k = wants (a_mark Colon) (λ r. memory_rest d p n (begun k))
declared declares.When d p n k = wants (behind_word d n.place n.name) (λ e. when_rest d p e (λ s. k (open_when s)))

-- a declaration or a when by its first word, where its second is the name, or begins the condition
abbrev pub declaration_step : Lead → ℕ → Place → List ℕ → List ℕ → Place → Step Begun
declaration_step lead.Skip d p w x q = refuses
declaration_step lead.Missing d p w x q = unsupported p w
declaration_step lead.MissingPort d p w x q = if bytes_eq x (codes "mport") then unsupported p w else refuses
declaration_step lead.Name d p w x q = refuses
declaration_step (lead.Declares l) d p w x q = takes (λ k. declared l d p (record { place = q; name = x }) k)

-- no statement goes on so behind its first word
abbrev pub stuck_behind : Lead → Place → List ℕ → Step Begun
stuck_behind lead.Missing p w = unsupported p w
stuck_behind _ p w = refuses

abbrev pub end_behind : Lead → Place → List ℕ → Step Begun
end_behind lead.Skip p w = takes (λ k. k (statement (skip p)))
end_behind l p w = stuck_behind l p w

abbrev pub ref_or : Option (Step Statement) → Step Begun → Step Begun
ref_or (Some s) otherwise = mapped statement s
ref_or None otherwise = otherwise

-- behind the first word of a statement
abbrev pub first_step : ℕ → Place → List ℕ → Lexeme → Place → Step Begun
first_step d p w (mark m) q = ref_or (ref_step d p w m q) (stuck_behind (lead_of w) p w)
first_step d p w (word x) q =
    if bytes_eq x (codes "is") then takes (λ k. wants (behind_is d p w q) k)
    else declaration_step (lead_of w) d p w x q
first_step d p w line_end q = end_behind (lead_of w) p w
first_step d p w _ q = stuck_behind (lead_of w) p w

abbrev pub is_named : Place → PlacedName
is_named q = record { place = q; name = codes "is" }

-- a declaration of the name `is`, or a when whose condition begins with it, behind that name
abbrev pub declaration_of_is : Lead → ℕ → Place → Place → Lexeme → Place → Step Begun
declaration_of_is (lead.Declares declares.Wire) d p q (mark Colon) r = takes (λ k. wire_rest d p (is_named q) (begun k))
declaration_of_is (lead.Declares declares.Reg) d p q (mark Colon) r = takes (λ k. register_rest d p (is_named q) (begun k))
declaration_of_is (lead.Declares declares.Node) d p q (mark Equals) r = takes (λ k. node_rest d p (is_named q) (begun k))
declaration_of_is (lead.Declares declares.Inst) d p q (word x) r = if bytes_eq x (codes "of") then takes (λ k. instance_rest p (is_named q) (begun k)) else refuses
declaration_of_is (lead.Declares declares.Mem) d p q (mark Colon) r = takes (λ k. memory_rest d p (is_named q) (begun k))
declaration_of_is (lead.Declares declares.When) d p q (mark Colon) r = takes (λ k. when_block d p (reference q (codes "is") no_parts) (λ s. k (open_when s)))
declaration_of_is (lead.Declares declares.When) d p q (mark Dot) r = takes (λ k. dot_rest d 1 r (λ ps. when_rest d p (reference q (codes "is") ps) (λ s. k (open_when s))))
declaration_of_is (lead.Declares declares.When) d p q (mark OpenSquare) r = takes (λ k. index_rest d 1 r (λ ps. when_rest d p (reference q (codes "is") ps) (λ s. k (open_when s))))
declaration_of_is _ d p q _ r = refuses

abbrev pub invalid_or : Lexeme → SinkReference → Step Begun → Step Begun
invalid_or (word x) s otherwise = if bytes_eq x (codes "invalid") then takes (λ k. ends_line (invalid s.place s) (begun k)) else otherwise
invalid_or _ s otherwise = otherwise

-- behind the first word of a statement and the word `is`
abbrev pub is_step : ℕ → Place → List ℕ → Place → Lexeme → Place → Step Begun
is_step d p w q l r = invalid_or l (bare p w) (declaration_of_is (lead_of w) d p q l r)

-- whens, each in the else of the one before, the last with this else
abbrev pub chain : List OpenWhen → Block → Block
chain [] last = last
chain (w ∷ ws) last = (then) (when w.place w.condition w.block (chain ws last)) done

-- open whens with the last else, before the statements behind them
abbrev pub closed_before : List OpenWhen → Block → Block → Block
closed_before [] last rest = rest
closed_before (w ∷ ws) last rest = (then) (when w.place w.condition w.block (chain ws last)) rest

-- the statements behind one; an else may follow a when
abbrev pub behind_statement : ℕ → Begun → (Block → State) → State
behind_statement d (statement s) k = wants (statements d []) (λ rest. k ((then) s rest))
behind_statement d (open_when w) k = wants (statements d (w ∷ [])) k

abbrev pub behind_otherwise : ℕ → List OpenWhen → Otherwise → (Block → State) → State
behind_otherwise d ws (else_block b) k = wants (statements d []) (λ rest. k (closed_before ws b rest))
behind_otherwise d ws (else_when w) k = wants (statements d (ws ++ w ∷ [])) k
behind_otherwise d ws (no_else s) k = wants (statements d []) (λ rest. k (closed_before ws done ((then) s rest)))

abbrev pub may_be_else : List OpenWhen → List ℕ → Bool
may_be_else [] w = false
may_be_else (_ ∷ _) w = bytes_eq w (codes "else")

-- the statements of a level up to its end, behind whens of which each may have the next in its else
abbrev pub statements_step : ℕ → List OpenWhen → Lexeme → Place → Step Block
statements_step d ws level_closes p = takes (λ k. k (closed_before ws done done))
statements_step d ws (word w) p =
    if may_be_else ws w then takes (λ k. wants (behind_else d (length ws) p) (λ x. behind_otherwise d ws x k))
    else takes (λ k. wants (behind_first d p w) (λ s. behind_statement d s (λ rest. k (closed_before ws done rest))))
statements_step d ws _ p = refuses

abbrev pub otherwise_ref : Option (Step Statement) → Step Otherwise
otherwise_ref (Some s) = mapped no_else s
otherwise_ref None = refuses

-- behind the word `else`, with so many whens open before it: a block or a when within as many blocks more, or a statement that begins with a ref
abbrev pub else_step : ℕ → ℕ → Place → Lexeme → Place → Step Otherwise
else_step d n p (mark Colon) q = takes (λ k. wants a_line_end (λ r. wants (an_indented_block (d + n)) (λ b. k (else_block b))))
else_step d n p (mark m) q = otherwise_ref (ref_step d p (codes "else") m q)
else_step d n p (word w) q =
    if bytes_eq w (codes "when") then takes (λ k. wants (an_expression (d + n)) (λ e. when_rest (d + n) q e (λ s. k (else_when s))))
    else if bytes_eq w (codes "is") then takes (λ k. wants (a_word (codes "invalid")) (λ r. ends_line (invalid p (bare p (codes "else"))) (λ s. k (no_else s))))
    else refuses
else_step d n p _ q = refuses

-- IN stmt* OUT, or none
abbrev pub block_step : ℕ → Lexeme → Step Block
block_step d level_opens = takes (λ k. wants (statements d []) k)
block_step d _ = without done

-- "reset" "=>" "(" expr "," expr ")", behind the word `with` at a place
abbrev pub reset_rest : ℕ → Place → (Reset → State) → State
reset_rest d w k =
    wants (a_word (codes "reset")) (λ p. wants (a_mark Arrow) (λ q. wants (a_mark OpenRound) (λ r. opens d r
    (wants (an_expression (d + 1)) (λ c. wants (a_mark Comma) (λ s. wants (an_expression (d + 1)) (λ i. wants (a_mark CloseRound) (λ t. k (record { place = w; condition = c; init = i })))))))))

-- [ with ] NL
abbrev pub reset_step : ℕ → Lexeme → Place → Step (Option Reset)
reset_step d line_end p = takes (λ k. k None)
reset_step d (word w) p = if bytes_eq w (codes "with") then takes (λ k. wants (a_mark Colon) (λ q. wants (behind_with d p) (λ r. k (Some r)))) else refuses
reset_step d _ p = refuses

abbrev pub with_step : ℕ → Place → Lexeme → Place → Step Reset
with_step d w (mark OpenRound) p = takes (λ k. opens d p (reset_rest (d + 1) w (λ r. wants (a_mark CloseRound) (λ q. ends_line r k))))
with_step d w line_end p = takes (λ k. wants an_opening (λ q. reset_rest d w (λ r. ends_line r (λ s. wants a_closing (λ t. k s)))))
with_step d w _ p = refuses

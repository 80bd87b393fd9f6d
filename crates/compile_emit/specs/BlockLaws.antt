-- How appended expressions and command words make up commands, commands a block, and blocks a list; and the room for each. Assumes nothing.
use Rattle.std.specs.Prelude.{ℕ, ◌+◌, ◌-◌, ◌≤◌, ◌<◌, ◌≡◌, refl, Bool, true, false, List, [], ◌∷◌, length, ℤ}
use Rattle.std.proofs.Common.{ap, ◌∙◌, add-one, arith}
use Rattle.std.proofs.Math.Option.{Option}
use Rattle.model.specs.Limits.{node_limit, command_limit, block_limit, item_first, count_first}
use Rattle.model.specs.Expr.{Expr, size}
use Rattle.model.specs.Script.{Command, return, set_variable, if_else, end_if, Block, code, command_nodes, commands_nodes, block_commands, block_nodes}
use Rattle.model.specs.Memory.{Nodes, Coded, Memory, nodes_in, put_expr, command_words, put_command, put_commands, block_words, link_word, put_block, put_blocks}
use Rattle.model.specs.Compile.{emit_set, if_block}
use Rattle.memory.specs.View.{coded_of, memory_of}
use Rattle.memory.specs.declared.Counts.{Counts}
use Rattle.memory.specs.Pushed.{PutExpr, PushedCommand, PutCommand, PushedBlock}
use Rattle.memory.specs.Sound.{Room}
use Rattle.compile_emit.specs.Put.{PutCommands, PutBlocks}
use Rattle.compile_emit.specs.declared.Held.{Held}
use Rattle.compile_emit.specs.Values.{held_in, slot_block, with_end, PushedEnd, PushedIf}

-- ---- commands

abbrev coded : Nodes → List ℕ → ℕ → Coded
coded ns w c = record { nodes = ns; words = w; count = c }

pub set_put : {n n1 n2 : Nodes} {w w1 : List ℕ} {c c1 : ℕ} {t v : Expr} → PutExpr n t n1 → PutExpr n1 v n2 → PushedCommand w c 2 (n1.count - 1) (n2.count - 1) 0 w1 c1
    → PutCommand (record { nodes = n; words = w; count = c }) (set_variable t v) (record { nodes = n2; words = w1; count = c1 })
unfolding put_command command_nodes
set_put {n} {n1} {n2} {w} {w1} {c} {c1} {t} {v} p q r = record {
  is = ap (λ (x : List ℕ). coded n2 x c1) r.is
      ∙ ap (λ (x : ℕ). coded n2 (command_words w c 2 (n1.count - 1) (n2.count - 1) 0) x) r.counted
      ∙ ap (λ (x : Nodes). coded x (command_words w c 2 (n1.count - 1) (x.count - 1) 0) (c + 1)) q.is
      ∙ ap (λ (x : Nodes). coded (put_expr x v) (command_words w c 2 (x.count - 1) ((put_expr x v).count - 1) 0) (c + 1)) p.is;
  counted = r.counted;
  nodes_counted = omega (arith, p.counted, q.counted);
}

pub if_put : {n n1 : Nodes} {w w1 : List ℕ} {c c1 : ℕ} {e : Expr} {k : ℕ} → PutExpr n e n1 → PushedCommand w c 3 (n1.count - 1) 0 k w1 c1
    → PutCommand (record { nodes = n; words = w; count = c }) (if_else e k) (record { nodes = n1; words = w1; count = c1 })
unfolding put_command command_nodes
if_put {n} {n1} {w} {w1} {c} {c1} {e} {k} p r = record {
  is = ap (λ (x : List ℕ). coded n1 x c1) r.is
      ∙ ap (λ (x : ℕ). coded n1 (command_words w c 3 (n1.count - 1) 0 k) x) r.counted
      ∙ ap (λ (x : Nodes). coded x (command_words w c 3 (x.count - 1) 0 k) (c + 1)) p.is;
  counted = r.counted;
  nodes_counted = p.counted;
}

pub endif_put : {n : Nodes} {w w1 : List ℕ} {c c1 k : ℕ} → PushedCommand w c 4 0 0 k w1 c1
    → PutCommand (record { nodes = n; words = w; count = c }) (end_if k) (record { nodes = n; words = w1; count = c1 })
unfolding put_command command_nodes
endif_put {n} {w} {w1} {c} {c1} {k} r = record {
  is = ap (λ (x : List ℕ). coded n x c1) r.is ∙ ap (λ (x : ℕ). coded n (command_words w c 4 0 0 k) x) r.counted;
  counted = r.counted;
  nodes_counted = omega arith;
}

pub return_put : {n : Nodes} {w w1 : List ℕ} {c c1 : ℕ} → PushedCommand w c 0 0 0 0 w1 c1
    → PutCommand (record { nodes = n; words = w; count = c }) return (record { nodes = n; words = w1; count = c1 })
unfolding put_command command_nodes
return_put {n} {w} {w1} {c} {c1} r = record {
  is = ap (λ (x : List ℕ). coded n x c1) r.is ∙ ap (λ (x : ℕ). coded n (command_words w c 0 0 0 0) x) r.counted;
  counted = r.counted;
  nodes_counted = omega arith;
}

pub none_put : {s : Coded} → PutCommands s [] s
unfolding put_commands commands_nodes
none_put = record { is = refl; counted = omega arith; nodes_counted = omega arith }

pub next_put : {s t u : Coded} {c : Command} {cs : List Command} → PutCommand s c t → PutCommands t cs u → PutCommands s (c ∷ cs) u
unfolding put_commands commands_nodes
next_put {s} {t} {u} {c} {cs} p q = record {
  is = q.is ∙ ap (λ (x : Coded). put_commands x cs) p.is;
  counted = omega (arith, p.counted, q.counted);
  nodes_counted = omega (arith, p.nodes_counted, q.nodes_counted);
}

pub two_commands : {s t u : Coded} {a b : Command} → PutCommand s a t → PutCommand t b u → PutCommands s (a ∷ b ∷ []) u
two_commands p q = next_put p (next_put q none_put)

-- ---- blocks

memory : Coded → List ℕ → ℕ → Memory
memory co w b = record { coded = co; words = w; count = b }

-- a block after its commands
pub block_put : {s t : Coded} {w w1 : List ℕ} {b b1 x o : ℕ} {cs : List Command} {nx el : Option ℕ}
    → PutCommands s cs t → PushedBlock w b 1 s.count (length cs) x o w1 b1 → x ≡ link_word nx → o ≡ link_word el
    → PutBlocks (record { coded = s; words = w; count = b }) (code cs nx el ∷ []) (record { coded = t; words = w1; count = b1 })
unfolding put_blocks put_block block_commands block_nodes memory
block_put {s} {t} {w} {w1} {b} {b1} {x} {o} {cs} {nx} {el} p q f g = record {
  is = ap (λ (y : List ℕ). memory t y b1) q.is
      ∙ ap (λ (y : ℕ). memory t (block_words w b 1 s.count (length cs) x o) y) q.counted
      ∙ ap (λ (y : ℕ). memory t (block_words w b 1 s.count (length cs) y o) (b + 1)) f
      ∙ ap (λ (y : ℕ). memory t (block_words w b 1 s.count (length cs) (link_word nx) y) (b + 1)) g
      ∙ ap (λ (y : Coded). memory y (block_words w b 1 s.count (length cs) (link_word nx) (link_word el)) (b + 1)) p.is;
  counted = q.counted;
  commands_counted = omega (arith, p.counted);
  nodes_counted = omega (arith, p.nodes_counted);
}

pub blocks_put : {s t u : Memory} {x : Block} {xs : List Block} → PutBlocks s (x ∷ []) t → PutBlocks t xs u → PutBlocks s (x ∷ xs) u
unfolding put_blocks
blocks_put {s} {t} {u} {x} {xs} p q = record {
  is = q.is ∙ ap (λ (y : Memory). put_blocks y xs) p.is;
  counted = omega (arith, p.counted, q.counted);
  commands_counted = omega (arith, p.commands_counted, q.commands_counted);
  nodes_counted = omega (arith, p.nodes_counted, q.nodes_counted);
}

-- ---- room: for the first of some blocks, and for the others once it is there

pub room_first : {s : Memory} {x : Block} {xs : List Block} → Room s (x ∷ xs) → Room s (x ∷ [])
room_first r = record { blocks = omega (arith, r.blocks); commands = omega (arith, r.commands); nodes = omega (arith, r.nodes) }

pub room_rest : {s t : Memory} {x : Block} {xs : List Block} → Room s (x ∷ xs) → PutBlocks s (x ∷ []) t → Room t xs
room_rest r p = record {
  blocks = omega (arith, r.blocks, p.counted);
  commands = omega (arith, r.commands, p.commands_counted);
  nodes = omega (arith, r.nodes, p.nodes_counted);
}

-- ---- blocks of a slot

-- room for its two Sets, and for what ends it
pub record SlotRoom (m : Memory) (endif : Bool) (a b : Expr) : Type 0 where
  pub nodes : m.coded.nodes.count + (1 + size a) + (1 + size b) ≤ node_limit
  pub commands : m.coded.count + 2 ≤ command_limit
  pub last : (n : ℕ) → n ≡ m.coded.count + 2 → with_end endif n ≤ command_limit
  pub blocks : m.count < block_limit

pub slot_room : (m : Memory) (endif : Bool) (end i : ℕ) (a b : Expr) → Room m (slot_block endif end i a b ∷ []) → SlotRoom m endif a b
unfolding size block_nodes block_commands commands_nodes command_nodes
slot_room m true end i a b r = record { nodes = omega (arith, r.nodes); commands = omega (arith, r.commands); last = λ n e. omega (arith, r.commands); blocks = omega (arith, r.blocks) }
slot_room m false end i a b r = record { nodes = omega (arith, r.nodes); commands = omega (arith, r.commands); last = λ n e. omega (arith, r.commands); blocks = omega (arith, r.blocks) }

-- the two Sets, then what ends the block
pub slot_block_lem : {ws ws1 cw cw1 cw2 bw bw1 : List ℕ} {vs vs1 : List ℤ} {s : Coded} {k m : Counts} {h : Held} {end : ℕ} {a b : Expr} (endif : Bool) (i : ℕ)
    → PutCommand (coded_of ws vs cw k) (emit_set (item_first + i) a) s → PutCommand s (emit_set (count_first + i) b) (held_in ws1 vs1 cw1 h)
    → PushedEnd cw1 bw k h end endif cw2 bw1 m → PutBlocks (memory_of ws vs cw bw k) (slot_block endif end i a b ∷ []) (memory_of ws1 vs1 cw2 bw1 m)
slot_block_lem {end} true i p q r =
    rw r.nodes (block_put
    (next_put p (two_commands q (endif_put (record { is = r.commands_are; counted = r.commands }))))
    (record { is = r.blocks_are; counted = r.blocks }) (add-one end) refl)
slot_block_lem {end} false i p q r =
    rw (r.nodes, r.commands_are, r.commands) (block_put (two_commands p q) (record { is = r.blocks_are; counted = r.blocks }) (add-one end) refl)

-- ---- blocks of an If

-- the condition's nodes, then the If and its block
pub if_block_lem : {ws ws1 cw cw1 bw bw1 : List ℕ} {vs vs1 : List ℤ} {n : ℕ} {k m : Counts} {e : Expr} {next other : ℕ}
    → PutExpr (nodes_in ws vs k.nodes) e (nodes_in ws1 vs1 n) → PushedIf cw bw k n next other cw1 bw1 m
    → PutBlocks (memory_of ws vs cw bw k) (if_block next e other ∷ []) (memory_of ws1 vs1 cw1 bw1 m)
if_block_lem {ws} {ws1} {cw} {cw1} {bw} {bw1} {vs} {vs1} {n} {k} {m} {e} {next} {other} p q =
    rw q.nodes (block_put
    (next_put (if_put p (record { is = q.commands_are; counted = q.commands })) none_put)
    (record { is = q.blocks_are; counted = q.blocks }) (add-one next) (add-one other))

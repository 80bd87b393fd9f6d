-- Every limit of documents 01 and 02, each under one name. Assumes nothing: these are definitions.
use Rattle.std.specs.Prelude.{ℕ}

-- Script: blocks, commands, expression nodes, and the depth of an expression, a leaf being 1
abbrev pub block_limit : ℕ
block_limit = 4096

abbrev pub command_limit : ℕ
command_limit = 16384

abbrev pub node_limit : ℕ
node_limit = 32768

abbrev pub depth_limit : ℕ
depth_limit = 64

-- Slot: the slots of a shop, the entries that may be given per slot and that parsing may leave in one (02, A.1)
abbrev pub slot_count : ℕ
slot_count = 20

abbrev pub entry_limit : ℕ
entry_limit = 14

-- Id sheet: items and attachments
abbrev pub fewest_items : ℕ
fewest_items = 3

abbrev pub most_items : ℕ
most_items = 512

abbrev pub most_atcs : ℕ
most_atcs = 64

-- Save: flags, times and variables that it has, and the largest count of an item
abbrev pub flag_count : ℕ
flag_count = 2048

abbrev pub time_count : ℕ
time_count = 8

abbrev pub variable_count : ℕ
variable_count = 1024

abbrev pub most_held : ℕ
most_held = 32767

-- Compiler: the limit of a slot lies in 1 to this, and the variables from which on a slot's item and count are kept
abbrev pub most_stock : ℕ
most_stock = 10

abbrev pub item_first : ℕ
item_first = 600

abbrev pub count_first : ℕ
count_first = 620

-- 02, A.2: where the count of accepted compiles stays
abbrev pub most_compiles : ℕ
most_compiles = 4294967295

-- 02, A.4: the root blocks that a reclaim may be given
abbrev pub root_limit : ℕ
root_limit = 256

-- 02, A.6: the blocks and commands of a script that the demo disc loads
abbrev pub demo_blocks : ℕ
demo_blocks = 512

abbrev pub demo_commands : ℕ
demo_commands = 2048

-- 02, A.7: up to so many users work on one shop
abbrev pub user_count : ℕ
user_count = 16

-- 02, A.8: the saves of one walk, the budget of each run, and the blocks read at most for a setup block compiled at
abbrev pub most_saves : ℕ
most_saves = 64

abbrev pub lane_budget : ℕ
lane_budget = 4096

abbrev pub walk_blocks : ℕ
walk_blocks = 142

-- 02, A.11: the coins of a price, and the parts of one that a discount is counted in
abbrev pub most_price : ℕ
most_price = 30000

abbrev pub thousand : ℕ
thousand = 1000

-- 02, A.13: the wishes of a shopper and the coins of its money
abbrev pub most_wishes : ℕ
most_wishes = 1000

abbrev pub most_money : ℕ
most_money = 1000000

-- demand 3: the blocks after which the run of a compiled shop has reached Return
abbrev pub run_blocks : ℕ
run_blocks = 82

-- Image: the values of a number of 32 bits and of 16 bits
abbrev pub wide : ℕ
wide = 4294967296

abbrev pub wide16 : ℕ
wide16 = 65536

-- half of each: a signed number of 32 or 16 bits lies below it
abbrev pub half32 : ℕ
half32 = 2147483648

abbrev pub half16 : ℕ
half16 = 32768

-- Program slots: the bytes of standard input
abbrev pub input_limit : ℕ
input_limit = 65536

-- Where a sheet lies in its table. The terms: their kinds, then the first arguments, then the second ones, a byte each. Then
-- the counts of
-- terms and of skeletons. Then a block for each skeleton.
use Rattle.std.specs.Prelude.{ℕ, ◌+◌, ◌*◌}

abbrev pub firsts : ℕ
firsts = 200

abbrev pub seconds : ℕ
seconds = 400

abbrev pub term_count : ℕ
term_count = 600

abbrev pub skeleton_count : ℕ
skeleton_count = 601

-- the block of skeleton k
abbrev pub block : ℕ → ℕ
block k = 602 + 522 * k

-- all of it
abbrev pub table_size : ℕ
table_size = 1646

-- Within a block: the counts of strands, OR, NO and UO records,
abbrev pub strand_count : ℕ
strand_count = 0

abbrev pub order_count : ℕ
order_count = 1

abbrev pub non_count : ℕ
non_count = 2

abbrev pub uniq_count : ℕ
uniq_count = 3

-- a height for each strand,
abbrev pub heights : ℕ
heights = 4

-- a direction and a message for each node, sixteen nodes to a strand,
abbrev pub directions : ℕ
directions = 10

abbrev pub messages : ℕ
messages = 106

-- four bytes for each OR record, and one for each NO and UO record
abbrev pub orders : ℕ
orders = 202

abbrev pub nons : ℕ
nons = 458

abbrev pub uniqs : ℕ
uniqs = 490

abbrev pub block_size : ℕ
block_size = 522

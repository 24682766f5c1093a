-- "At most 200 terms; per skeleton 6 strands, height 1 to 16, 64 OR, 32 NO, 32 UO." "one or two skeletons"
use Rattle.std.specs.Prelude.{ℕ}

abbrev pub most_terms : ℕ
most_terms = 200

abbrev pub most_skeletons : ℕ
most_skeletons = 2

abbrev pub most_strands : ℕ
most_strands = 6

abbrev pub most_height : ℕ
most_height = 16

abbrev pub most_orders : ℕ
most_orders = 64

abbrev pub most_nons : ℕ
most_nons = 32

abbrev pub most_uniqs : ℕ
most_uniqs = 32

-- Strand maps that break one rule and no other: each answer is computed from the bytes.
use Rattle.std.specs.Prelude.{[], ◌∷◌}
use Rattle.theory.specs.Each.{Each, each_nil, each_cons}
use Rattle.theory.proofs.Asking.{ask_map}
use Rattle.cases.specs.Cases.{two_texts, one_text, Holds}
use Rattle.cases.specs.RuleCases.{directions, ordered, ordered_both, withheld, withheld_both, unique, elsewhere, here, space, rule1_strand, rule1_few, rule1_many, rule2_direction, rule2_height, rule2_kept, rule3_two, rule4_lost, rule4_kept, rule5_lost, rule5_kept, rule6_lost, rule6_elsewhere, rule6_kept, rule_cases}

strand_holds : Holds rule1_strand
unfolding Holds two_texts ask_map
strand_holds = (ask_map 0 1 (0 ∷ 2 ∷ []) space two_texts).gives

few_holds : Holds rule1_few
unfolding Holds two_texts ask_map
few_holds = (ask_map 0 1 (0 ∷ []) space two_texts).gives

many_holds : Holds rule1_many
unfolding Holds two_texts ask_map
many_holds = (ask_map 0 1 (0 ∷ 1 ∷ 0 ∷ []) space two_texts).gives

direction_holds : Holds rule2_direction
unfolding Holds directions ask_map
direction_holds = (ask_map 0 1 (0 ∷ []) space directions).gives

height_holds : Holds rule2_height
unfolding Holds directions ask_map
height_holds = (ask_map 0 1 (1 ∷ []) space directions).gives

kept2_holds : Holds rule2_kept
unfolding Holds directions ask_map
kept2_holds = (ask_map 0 1 (2 ∷ []) space directions).gives

two_holds : Holds rule3_two
unfolding Holds one_text ask_map
two_holds = (ask_map 0 1 (0 ∷ 1 ∷ []) space one_text).gives

lost4_holds : Holds rule4_lost
unfolding Holds ordered ask_map
lost4_holds = (ask_map 0 1 (0 ∷ 1 ∷ []) space ordered).gives

kept4_holds : Holds rule4_kept
unfolding Holds ordered_both ask_map
kept4_holds = (ask_map 0 1 (0 ∷ 1 ∷ []) space ordered_both).gives

lost5_holds : Holds rule5_lost
unfolding Holds withheld ask_map
lost5_holds = (ask_map 0 1 (0 ∷ []) space withheld).gives

kept5_holds : Holds rule5_kept
unfolding Holds withheld_both ask_map
kept5_holds = (ask_map 0 1 (0 ∷ []) space withheld_both).gives

lost6_holds : Holds rule6_lost
unfolding Holds unique ask_map
lost6_holds = (ask_map 0 1 (0 ∷ []) space unique).gives

elsewhere_holds : Holds rule6_elsewhere
unfolding Holds elsewhere ask_map
elsewhere_holds = (ask_map 0 1 (0 ∷ []) space elsewhere).gives

kept6_holds : Holds rule6_kept
unfolding Holds here ask_map
kept6_holds = (ask_map 0 1 (0 ∷ []) space here).gives

-- THE CLAIM
pub rules_hold : Each Holds rule_cases
rules_hold =
    each_cons Holds strand_holds
    (each_cons Holds few_holds
    (each_cons Holds many_holds
    (each_cons Holds direction_holds
    (each_cons Holds height_holds
    (each_cons Holds kept2_holds
    (each_cons Holds two_holds
    (each_cons Holds lost4_holds
    (each_cons Holds kept4_holds
    (each_cons Holds lost5_holds
    (each_cons Holds kept5_holds
    (each_cons Holds lost6_holds
    (each_cons Holds elsewhere_holds
    (each_cons Holds kept6_holds
    (each_nil Holds))))))))))))))

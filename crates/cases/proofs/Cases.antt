-- The paper's cases P1 to P12 hold: each answer is computed from the bytes.
use Rattle.std.specs.Prelude.{[], ◌∷◌}
use Rattle.theory.specs.Each.{Each, each_nil, each_cons}
use Rattle.theory.proofs.Asking.{ask_reach, ask_realized, ask_map, ask_list}
use Rattle.cases.specs.Cases.{paper, shape, leak, no_leak, lone_tag, lone_hash, two_texts, one_text, one_unique, node, list_space, image_space, Holds, P1, P2, P3, P3_reach, P4, P4_images, P4_other, P5, P6, P7, P8, P9, P10, P11, P12, cases}

P1_holds : Holds P1
unfolding Holds paper ask_realized
P1_holds = (ask_realized 0 paper).gives

P2_holds : Holds P2
unfolding Holds paper ask_reach
P2_holds = (ask_reach 0 (node 0 1) paper).gives

P3_holds : Holds P3
unfolding Holds paper ask_realized
P3_holds = (ask_realized 1 paper).gives

P3_reach_holds : Holds P3_reach
unfolding Holds paper ask_reach
P3_reach_holds = (ask_reach 1 (node 0 1) paper).gives

P4_holds : Holds P4
unfolding Holds paper ask_list
P4_holds = (ask_list 0 1 list_space paper).gives

P4_images_holds : Holds P4_images
unfolding Holds paper ask_map
P4_images_holds = (ask_map 0 1 (0 ∷ []) image_space paper).gives

P4_other_holds : Holds P4_other
unfolding Holds paper ask_map
P4_other_holds = (ask_map 0 1 (1 ∷ []) image_space paper).gives

P5_holds : Holds P5
unfolding Holds shape ask_realized
P5_holds = (ask_realized 0 shape).gives

P6_holds : Holds P6
unfolding Holds leak ask_realized
P6_holds = (ask_realized 0 leak).gives

P7_holds : Holds P7
unfolding Holds no_leak ask_realized
P7_holds = (ask_realized 0 no_leak).gives

P8_holds : Holds P8
unfolding Holds lone_tag ask_realized
P8_holds = (ask_realized 0 lone_tag).gives

P9_holds : Holds P9
unfolding Holds lone_hash ask_realized
P9_holds = (ask_realized 0 lone_hash).gives

P10_holds : Holds P10
unfolding Holds two_texts ask_list
P10_holds = (ask_list 0 1 list_space two_texts).gives

P11_holds : Holds P11
unfolding Holds one_text ask_list
P11_holds = (ask_list 0 1 list_space one_text).gives

P12_holds : Holds P12
unfolding Holds one_unique ask_list
P12_holds = (ask_list 0 1 list_space one_unique).gives

-- THE CLAIM
pub all_hold : Each Holds cases
all_hold =
    each_cons Holds P1_holds
    (each_cons Holds P2_holds
    (each_cons Holds P3_holds
    (each_cons Holds P3_reach_holds
    (each_cons Holds P4_holds
    (each_cons Holds P4_images_holds
    (each_cons Holds P4_other_holds
    (each_cons Holds P5_holds
    (each_cons Holds P6_holds
    (each_cons Holds P7_holds
    (each_cons Holds P8_holds
    (each_cons Holds P9_holds
    (each_cons Holds P10_holds
    (each_cons Holds P11_holds
    (each_cons Holds P12_holds
    (each_nil Holds)))))))))))))))

-- The cases of the paper and of the map rules hold. The others are proved where they stand, in specs/.
pub mod Cases
pub mod RuleCases

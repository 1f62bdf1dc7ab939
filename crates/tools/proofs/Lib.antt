pub mod BestPlans

-- lists
pub mod Membership
pub mod CountLaws
pub mod Intersections
-- the graph and its walks
pub mod Places
pub mod VisitOrder
pub mod WalksAgree
pub mod GraphLaws
pub mod GraphsAgree
pub mod WalkSteps
-- the trees
pub mod ForestLaws
pub mod Flat
pub mod FlatLaws
pub mod FlatSteps
pub mod TreeLaws
pub mod AddedAgain
-- what is written and read
pub mod ReadBack
pub mod JobBack
pub mod Fits
pub mod Written
pub mod Verdicts
pub mod SheetNodes

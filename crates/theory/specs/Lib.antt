-- The definitions.
-- THE MEANING: 001's notions, and what document 01 says by them. Charts, loops and labellings
pub mod Paths
pub mod Charts
pub mod LoopCharts
pub mod Witnesses
pub mod Least
pub mod Checks
-- what stands while loops are taken out, removals and their orders
pub mod Standing
pub mod Removals
pub mod Orders
pub mod MultiSteps
-- expressions, the rules, and the chart of an expression that is given as a table of nodes
pub mod Systems
pub mod Expressions
pub mod Rules
pub mod Ascending
pub mod Transitions
pub mod Nodes
pub mod ExpressionCharts
pub mod Climbs
-- relations and followers
pub mod Relations
pub mod Followers
pub mod Events
pub mod Spoiling
pub mod Ways
-- an expression for a chart with its labelling, and its table of nodes
pub mod LabelledCharts
pub mod Texts
pub mod PostOrders
-- THE TESTS, which run: each decides or lists what one of the above means, by a law
pub mod Tests
pub mod Reachability
pub mod LabellingTests
pub mod RelationTests
pub mod RemovalTests
pub mod Derivatives
pub mod Runs
pub mod WayTests
pub mod TextTests
-- WHAT ONLY SERVES PROOFS
pub mod Recursions
pub mod Forests
pub mod Remains

mod Plays
mod WorkedRows
mod RarePaths
mod Moments
mod PlayedStatements
mod ScheduledPlays
mod PlayedCounts

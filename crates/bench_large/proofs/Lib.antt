pub mod PlainGames

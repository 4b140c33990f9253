pub mod RootBox

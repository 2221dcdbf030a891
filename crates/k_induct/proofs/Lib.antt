pub mod UnderWay
